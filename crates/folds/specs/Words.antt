-- What the words of a system say of what is chosen by tests.
use Rattle.std.specs.Prelude.{◌≡◌, Bool, true, false, cond, not, ◌&&◌, ◌⊎◌, ◌≢◌, Decides, refl}
use Rattle.std.proofs.Common.{inl, inr, sym, ap, ◌∙◌}
use Rattle.std.proofs.lemmas.Bool.{false≢true}
use Rattle.systems.specs.Words.{possible, certain, known, is_on, is_off}
use Rattle.systems.specs.declared.kinds.Kind.{Kind}
use Rattle.systems.specs.declared.kinds.Kind.TheVariants.{Absent, Optional, Certain}
use Rattle.systems.specs.declared.kinds.Light.{Light}
use Rattle.systems.specs.declared.kinds.Light.TheVariants.{Unknown, On, Off}

abbrev pub kind_made : Bool → Bool → Kind
kind_made some every = cond some (cond every Certain Optional) Absent

pub possible_made : (some every : Bool) → possible (kind_made some every) ≡ some
possible_made true true = refl
possible_made true false = refl
possible_made false every = refl

pub certain_made : (some every : Bool) → certain (kind_made some every) ≡ (some && every)
certain_made true true = refl
certain_made true false = refl
certain_made false every = refl

-- the same, of the kind itself
pub certain_possible : (some every : Bool) →
    certain (kind_made some every) ≡ (possible (kind_made some every) && every)
certain_possible true true = refl
certain_possible true false = refl
certain_possible false every = refl

abbrev pub light_made : Bool → Bool → Bool → Light
light_made some on off = cond some (cond on On (cond off Off Unknown)) Unknown

pub on_made : (some on off : Bool) → is_on (light_made some on off) ≡ (some && on)
on_made true true off = refl
on_made true false true = refl
on_made true false false = refl
on_made false on off = refl

pub off_made : (some on off : Bool) → is_off (light_made some on off) ≡ (some && (not on && off))
off_made true true off = refl
off_made true false true = refl
off_made true false false = refl
off_made false on off = refl

-- the same where both tests cannot pass
pub off_made_apart : (some on off : Bool) →
    (some ≡ true → on ≡ true → off ≡ false) → is_off (light_made some on off) ≡ (some && off)
off_made_apart true true off apart = sym (apart refl refl)
off_made_apart true false true apart = refl
off_made_apart true false false apart = refl
off_made_apart false on off apart = refl

pub is_on_decides : (v : Light) → Decides (is_on v) (v ≡ On)
is_on_decides Unknown = (λ h. cc, λ h. cc)
is_on_decides On = (λ h. refl, λ h. refl)
is_on_decides Off = (λ h. cc, λ h. cc)

pub is_off_decides : (v : Light) → Decides (is_off v) (v ≡ Off)
is_off_decides Unknown = (λ h. cc, λ h. cc)
is_off_decides On = (λ h. cc, λ h. cc)
is_off_decides Off = (λ h. refl, λ h. refl)

pub known_of : (v : Light) → known v ≡ true → (v ≡ On) ⊎ (v ≡ Off)
known_of Unknown h = cc
known_of On h = inl refl
known_of Off h = inr refl

pub not_on_off : (v : Light) → is_on v ≡ true → v ≢ Off
not_on_off v h e = false≢true (ap is_on (sym e) ∙ h)

-- what is chosen where the tests are known
pub off_chosen : (some on off : Bool) → some ≡ true → on ≡ false → off ≡ true → Off ≡ light_made some on off
off_chosen some on off s o f = rw (s, o, f)

pub unknown_chosen : (some on off : Bool) →
    some ≡ true → on ≡ false → off ≡ false → Unknown ≡ light_made some on off
unknown_chosen some on off s o f = rw (s, o, f)
