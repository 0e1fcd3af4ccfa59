-- What two sets of states that meet, or lie in one another, say of the moves from a state.
use Rattle.std.proofs.Common.{◌≡◌, ℕ, ◌<◌, Bool, true, not, ◌&&◌, ◌||◌, Decides, sym, ◌∙◌, arith}
use Rattle.std.proofs.lemmas.Bool.{and_parts}
use Rattle.std.proofs.lemmas.Bool.Decides.{same_from_decides, nat_tests}
use Rattle.frames.specs.Frames.{meaning_of}
use Rattle.frames.specs.Laws.{lawful}
use Rattle.frames.specs.declared.frame.Frame.{Frame}
use Rattle.sets.specs.Sets.{Set, has}
use Rattle.systems.proofs.Bounded.{any_from, any_to, all_from, all_to}
use Rattle.systems.specs.Meaning.{Meaning, states}
use Rattle.systems.specs.Words.{is_on, among}
use Rattle.systems.specs.declared.kinds.Kind.{Kind}
use Rattle.systems.specs.declared.kinds.Modality.{Modality}
use Rattle.marking.specs.Holding.{Below}
use Rattle.marking.specs.Moves.{enters_some, enters_only}

-- a move enters a state, and a lamp is on at states alone
move_states : (f : Frame) (m : Modality) (s a t : ℕ) → among m ((meaning_of f).kind s a t) ≡ true → t < states (meaning_of f)
move_states f m s a t h = grind (arith, nat_tests, (lawful f).moves_within s a t)

pub lit_states : (f : Frame) (l s : ℕ) → is_on ((meaning_of f).light s l) ≡ true → s < states (meaning_of f)
lit_states f l s h = grind (arith, nat_tests, (lawful f).lights_within s l)

-- the moves of one kind from a state, and a set
module _ (M : Meaning) (kind : Kind → Bool) (s a : ℕ) (moves set : Set) (entered : (t : ℕ) → has moves t ≡ kind (M.kind s a t)) (r : Bool) where
  -- what both hold is a state
  meeting : ((t : ℕ) → (has moves t && has set t) ≡ true → t < states M) → Decides r ((t : ℕ) × ((has moves t && has set t) ≡ true)) → r ≡ enters_some kind M a (has set) s
  meeting at_states h =
      let enters = λ (t : ℕ). kind (M.kind s a t) && has set t in
      same_from_decides r _ h (
        λ e. let (t, _, found) = any_to (states M) enters e in (t, grind (arith, entered t)),
        λ (t, found). any_from (states M) enters t (at_states t found) (grind (arith, entered t)),
      )

  pub meets_enters : Below (states M) set → Decides r ((t : ℕ) × ((has moves t && has set t) ≡ true)) → r ≡ enters_some kind M a (has set) s
  meets_enters below = meeting (λ t both. below t (and_parts (has moves t) (has set t) both).1)

  pub within_enters : ((t : ℕ) → kind (M.kind s a t) ≡ true → t < states M) → Decides r ((t : ℕ) → has moves t ≡ true → has set t ≡ true) → r ≡ enters_only kind M a (has set) s
  within_enters at_states h =
      let enters = λ (t : ℕ). not (kind (M.kind s a t)) || has set t in
      same_from_decides r _ h (
        λ e t inside. grind (arith, entered t, at_states t, all_to (states M) enters e t),
        λ each. all_from (states M) enters (λ t lt. grind (arith, entered t, each t)),
      )

-- the same of a frame, whose moves enter states alone, and of any set
module _ (f : Frame) (m : Modality) (a s : ℕ) (moves set : Set) (r : Bool) (entered : (t : ℕ) → has moves t ≡ among m ((meaning_of f).kind s a t)) where
  pub frame_meets : Decides r ((t : ℕ) × ((has moves t && has set t) ≡ true)) → r ≡ enters_some (among m) (meaning_of f) a (has set) s
  frame_meets = meeting (meaning_of f) (among m) s a moves set entered r (λ t both. move_states f m s a t (sym (entered t) ∙ (and_parts (has moves t) (has set t) both).0))

  pub frame_within : Decides r ((t : ℕ) → has moves t ≡ true → has set t ≡ true) → r ≡ enters_only (among m) (meaning_of f) a (has set) s
  frame_within = within_enters (meaning_of f) (among m) s a moves set entered r (move_states f m s a)
