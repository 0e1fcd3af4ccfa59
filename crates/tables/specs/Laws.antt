-- What holds of every system holds of one that stands in lists of entries.
use Rattle.std.proofs.Common.{◌≡◌, Bool, true, false, cond, List, refl, arith}
use Rattle.std.proofs.lemmas.Bool.{false≢true}
use Rattle.systems.specs.Meaning.{Lawful, move_within, light_within}
use Rattle.systems.specs.Words.{possible, known}
use Rattle.systems.specs.declared.bounds.Bounds.{Bounds}
use Rattle.systems.specs.declared.kinds.Kind.{Kind}
use Rattle.systems.specs.declared.kinds.Kind.TheVariants.{Absent}
use Rattle.systems.specs.declared.kinds.Light.{Light}
use Rattle.systems.specs.declared.kinds.Light.TheVariants.{Unknown}
use Rattle.systems.specs.Entries.{MoveEntry, LightEntry}
use Rattle.tables.specs.Entries.{entries_meaning}

possible_within : (within : Bool) (k : Kind) → possible (cond within k Absent) ≡ true → within ≡ true
possible_within true k p = refl
possible_within false k p = absurd (false≢true p)

known_within : (within : Bool) (v : Light) → known (cond within v Unknown) ≡ true → within ≡ true
known_within true v p = refl
known_within false v p = absurd (false≢true p)

pub entries_lawful : (b : Bounds 256) (ms : List MoveEntry) (ls : List LightEntry) → Lawful (entries_meaning b.sizes ms ls)
entries_lawful b ms ls = record {
  few_states = b.few_states;
  few_actions = b.few_actions;
  few_lamps = b.few_lamps;
  started = λ some. b.started;
  without_states = λ none. absurd (omega (arith, b.some_states));
  moves_within = λ s a t p. possible_within (move_within b.sizes s a t) _ p;
  lights_within = λ s l p. known_within (light_within b.sizes s l) _ p;
}
