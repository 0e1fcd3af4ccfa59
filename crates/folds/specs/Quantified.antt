-- The tests over the members of a class, with quantifiers.
use Rattle.std.specs.Prelude.{◌≡◌, ℕ, Bool, true, false, not, ◌||◌, List, ◌==◌, ◌≢◌, nat_lt, Decides, refl}
use Rattle.std.proofs.lemmas.Bool.{false≢true, ne_eqb, and_right}
use Rattle.std.proofs.lemmas.Bool.Decides.{Decides-and, Decides-like, Decides-ltb, Decides-eqb}
use Rattle.systems.proofs.Bounded.{any_decides, all_decides}
use Rattle.systems.specs.Meaning.{Meaning, states}
use Rattle.systems.specs.declared.kinds.Kind.{Kind}
use Rattle.folds.specs.Folds.{class_of, member, enters, some_member, every_member}
use Rattle.folds.specs.Readings.{Member, Enters}

implies : {P Q : Type 0} (a b : Bool) → Decides a P → Decides b Q → Decides (not a || b) (P → Q)
implies true b p q = (λ h _. q.0 h, λ f. q.1 (f (p.0 refl)))
implies false b p q = (λ _ x. absurd (false≢true (p.1 x)), λ _. refl)

module _ (M : Meaning) (cs : List ℕ) where
  pub member_decides : (a s : ℕ) → Decides (member M cs a s) (Member M cs a s)
  member_decides a s =
      let parts = Decides-and _ _ (Decides-ltb s (states M)) (Decides-eqb (class_of cs s) a) in
      Decides-like _ (λ p. record { state = p.0; class = p.1 }) (λ m. (m.state, m.class)) parts

  pub member_not : (a s : ℕ) → (class_of cs s ≢ a) → member M cs a s ≡ false
  member_not a s h = and_right (nat_lt s (states M)) (class_of cs s == a) (ne_eqb (class_of cs s) a h)

  pub enters_decides : (test : Kind → Bool) (s x b : ℕ) → Decides (enters test M cs s x b) (Enters test M cs s x b)
  enters_decides test s x b =
      let each = λ (t : ℕ). Decides-and (test (M.kind s x t)) _ (λ h. h, λ h. h) (member_decides b t) in
      let found = any_decides _ _ each (states M) in
      Decides-like _ (λ f. record { target = f.0; move = f.2.0; inside = f.2.1 })
      (λ e. (e.target, e.inside.state, (e.move, e.inside))) found

  module _ (a : ℕ) (p : ℕ → Bool) (P : ℕ → Type 0) (each : (s : ℕ) → Decides (p s) (P s)) where
    pub some_decides : Decides (some_member M cs a p) ((s : ℕ) × Member M cs a s × P s)
    some_decides =
        let found = any_decides _ _ (λ s. Decides-and _ _ (member_decides a s) (each s)) (states M) in
        Decides-like _ (λ f. (f.0, f.2.0, f.2.1)) (λ f. (f.0, f.1.state, (f.1, f.2))) found

    pub every_decides : Decides (every_member M cs a p) ((s : ℕ) → Member M cs a s → P s)
    every_decides =
        let held = all_decides _ _ (λ s. implies (member M cs a s) (p s) (member_decides a s) (each s)) (states M) in
        Decides-like _ (λ f s m. f s m.state m) (λ f s _ m. f s m) held
