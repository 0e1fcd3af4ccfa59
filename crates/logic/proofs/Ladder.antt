-- The ladder: relations between the states of C and A, from the one that joins all downwards, each
-- asking for one step more of what a refinement asks. It comes to rest at the widest refinement.
use Rattle.std.proofs.Common.{◌≡◌, ℕ, zero, suc, ◌*◌, ◌<◌, ◌≤◌, Bool, true, false, not, ◌&&◌, ◌||◌, ◌⊎◌, sym, refl, ◌∙◌, subst, inl, inr, ⊎_elim, arith}
use Rattle.std.proofs.lemmas.Bool.{both_ways, and_parts, and_from, cases_eq}
use Rattle.systems.specs.Bounded.{any, all}
use Rattle.systems.specs.Meaning.{Meaning, states, actions, lamps}
use Rattle.systems.specs.Refinement.{Joined, AnsweredCertain, AnsweredPossible, Refines}
use Rattle.systems.specs.Words.{possible, certain, known, is_on, is_off}
use Rattle.systems.specs.declared.kinds.Light.{Light}
use Rattle.systems.specs.declared.kinds.Light.TheVariants.{Unknown, On, Off}
use Rattle.systems.proofs.Bounded.{any_from, any_to, all_from, all_to}
use Rattle.logic.proofs.Counting.{total, total_grows, total_within, settles, bit, bit_falls, bit_within}
use Rattle.logic.proofs.Truth.{tests_same, guarded_from, guarded_to}

-- what a light of A asks of C's
abbrev pub agrees : Light → Light → Bool
agrees Unknown v = true
agrees On v = is_on v
agrees Off v = is_off v

abbrev pub lights_agree : Meaning → Meaning → ℕ → ℕ → Bool
lights_agree C A c a = all (lamps A) (λ l. agrees (A.light a l) (C.light c l))

-- a certain move of A from a on x to t is answered by one of C from c
abbrev pub certain_answer : Meaning → Meaning → (ℕ → ℕ → Bool) → ℕ → ℕ → ℕ → ℕ → Bool
certain_answer C A R c a x t = not (certain (A.kind a x t)) || any (states C) (λ u. certain (C.kind c x u) && R u t)

-- a possible move of C from c on x to u is answered by one of A from a
abbrev pub possible_answer : Meaning → Meaning → (ℕ → ℕ → Bool) → ℕ → ℕ → ℕ → ℕ → Bool
possible_answer C A R c a x u = not (possible (C.kind c x u)) || any (states A) (λ t. possible (A.kind a x t) && R u t)

abbrev pub certain_answered : Meaning → Meaning → (ℕ → ℕ → Bool) → ℕ → ℕ → Bool
certain_answered C A R c a = all (actions A) (λ x. all (states A) (certain_answer C A R c a x))

abbrev pub possible_answered : Meaning → Meaning → (ℕ → ℕ → Bool) → ℕ → ℕ → Bool
possible_answered C A R c a = all (actions A) (λ x. all (states C) (possible_answer C A R c a x))

-- one step of what a refinement asks, with R for the targets of the moves
abbrev pub next : Meaning → Meaning → (ℕ → ℕ → Bool) → ℕ → ℕ → Bool
next C A R c a = lights_agree C A c a && (certain_answered C A R c a && possible_answered C A R c a)

abbrev pub ladder : Meaning → Meaning → ℕ → ℕ → ℕ → Bool
ladder C A zero c a = true
ladder C A (suc i) c a = next C A (ladder C A i) c a

-- the same step in words
pub record Stepped (C A : Meaning) (R : ℕ → ℕ → Bool) (c a : ℕ) : Type 0 where
  pub lights : (l : ℕ) → l < lamps A → known (A.light a l) ≡ true → C.light c l ≡ A.light a l
  pub certain_moves : (x t : ℕ) → x < actions A → t < states A → certain (A.kind a x t) ≡ true → AnsweredCertain C A R c x t
  pub possible_moves : (x t : ℕ) → x < actions A → t < states C → possible (C.kind c x t) ≡ true → AnsweredPossible C A R a x t

agrees_to : (v w : Light) → agrees v w ≡ true → known v ≡ true → w ≡ v
agrees_to Unknown w e is = absurd (both_ways false refl is)
agrees_to On Unknown e is = absurd (both_ways false refl e)
agrees_to On On e is = refl
agrees_to On Off e is = absurd (both_ways false refl e)
agrees_to Off Unknown e is = absurd (both_ways false refl e)
agrees_to Off On e is = absurd (both_ways false refl e)
agrees_to Off Off e is = refl

agrees_from : (v w : Light) → (known v ≡ true → w ≡ v) → agrees v w ≡ true
agrees_from Unknown w h = refl
agrees_from On w h = subst (λ u. is_on u ≡ true) (sym (h refl)) refl
agrees_from Off w h = subst (λ u. is_off u ≡ true) (sym (h refl)) refl

module _ (C A : Meaning) where
  pub next_to : (R : ℕ → ℕ → Bool) (c a : ℕ) → next C A R c a ≡ true → Stepped C A R c a
  next_to R c a e =
      let parts = and_parts (lights_agree C A c a) (certain_answered C A R c a && possible_answered C A R c a) e in
      let moves = and_parts (certain_answered C A R c a) (possible_answered C A R c a) parts.1 in
      record {
        lights = λ l lt. agrees_to (A.light a l) (C.light c l) (all_to (lamps A) (λ i. agrees (A.light a i) (C.light c i)) parts.0 l lt);
        certain_moves = λ x t lt within is.
            let row = all_to (actions A) (λ y. all (states A) (certain_answer C A R c a y)) moves.0 x lt in
            let answer = guarded_to (certain (A.kind a x t)) (any (states C) (λ u. certain (C.kind c x u) && R u t)) (all_to (states A) (certain_answer C A R c a x) row t within) is in
            let found = any_to (states C) (λ u. certain (C.kind c x u) && R u t) answer in
            let both = and_parts (certain (C.kind c x found.0)) (R found.0 t) found.2 in
            record { target = found.0; move = both.0; joined = record { lower = found.1; upper = within; related = both.1 } };
        possible_moves = λ x u lt within is.
            let row = all_to (actions A) (λ y. all (states C) (possible_answer C A R c a y)) moves.1 x lt in
            let answer = guarded_to (possible (C.kind c x u)) (any (states A) (λ t. possible (A.kind a x t) && R u t)) (all_to (states C) (possible_answer C A R c a x) row u within) is in
            let found = any_to (states A) (λ t. possible (A.kind a x t) && R u t) answer in
            let both = and_parts (possible (A.kind a x found.0)) (R u found.0) found.2 in
            record { target = found.0; move = both.0; joined = record { lower = within; upper = found.1; related = both.1 } };
      }

  pub next_from : (R : ℕ → ℕ → Bool) (c a : ℕ) → Stepped C A R c a → next C A R c a ≡ true
  next_from R c a h = and_from (lights_agree C A c a) (certain_answered C A R c a && possible_answered C A R c a) lit (and_from (certain_answered C A R c a) (possible_answered C A R c a) certains possibles)
    where
      lit : lights_agree C A c a ≡ true
      lit = all_from (lamps A) (λ l. agrees (A.light a l) (C.light c l)) (λ l lt. agrees_from (A.light a l) (C.light c l) (h.lights l lt))

      certain_one : (x t : ℕ) → x < actions A → t < states A → certain_answer C A R c a x t ≡ true
      certain_one x t lt within =
          guarded_from (certain (A.kind a x t)) (any (states C) (λ u. certain (C.kind c x u) && R u t))
          (λ is.
          let answer = h.certain_moves x t lt within is in
          any_from (states C) (λ u. certain (C.kind c x u) && R u t) answer.target answer.joined.lower (and_from (certain (C.kind c x answer.target)) (R answer.target t) answer.move answer.joined.related))

      certains : certain_answered C A R c a ≡ true
      certains = all_from (actions A) (λ x. all (states A) (certain_answer C A R c a x)) (λ x lt. all_from (states A) (certain_answer C A R c a x) (λ t within. certain_one x t lt within))

      possible_one : (x u : ℕ) → x < actions A → u < states C → possible_answer C A R c a x u ≡ true
      possible_one x u lt within =
          guarded_from (possible (C.kind c x u)) (any (states A) (λ t. possible (A.kind a x t) && R u t))
          (λ is.
          let answer = h.possible_moves x u lt within is in
          any_from (states A) (λ t. possible (A.kind a x t) && R u t) answer.target answer.joined.upper (and_from (possible (A.kind a x answer.target)) (R u answer.target) answer.move answer.joined.related))

      possibles : possible_answered C A R c a ≡ true
      possibles = all_from (actions A) (λ x. all (states C) (possible_answer C A R c a x)) (λ x lt. all_from (states C) (possible_answer C A R c a x) (λ u within. possible_one x u lt within))

  -- R joins no states of C and A that R' does not join
  abbrev pub Narrower : (ℕ → ℕ → Bool) → (ℕ → ℕ → Bool) → Type 0
  Narrower R R' = (c a : ℕ) → c < states C → a < states A → R c a ≡ true → R' c a ≡ true

  joined_wider : (R R' : ℕ → ℕ → Bool) → Narrower R R' → (c a : ℕ) → Joined C A R c a → Joined C A R' c a
  joined_wider R R' h c a j = record { lower = j.lower; upper = j.upper; related = h c a j.lower j.upper j.related }

  stepped_wider : (R R' : ℕ → ℕ → Bool) → Narrower R R' → (c a : ℕ) → Stepped C A R c a → Stepped C A R' c a
  stepped_wider R R' h c a step = record {
    lights = step.lights;
    certain_moves = λ x t lt within is.
        let answer = step.certain_moves x t lt within is in
        record { target = answer.target; move = answer.move; joined = joined_wider R R' h answer.target t answer.joined };
    possible_moves = λ x u lt within is.
        let answer = step.possible_moves x u lt within is in
        record { target = answer.target; move = answer.move; joined = joined_wider R R' h u answer.target answer.joined };
  }

  pub next_wider : (R R' : ℕ → ℕ → Bool) → Narrower R R' → (c a : ℕ) → next C A R c a ≡ true → next C A R' c a ≡ true
  next_wider R R' h c a e = next_from R' c a (stepped_wider R R' h c a (next_to R c a e))

  pub ladder_narrows : (i : ℕ) → Narrower (ladder C A (suc i)) (ladder C A i)
  ladder_narrows zero = λ c a c_in a_in e. refl
  ladder_narrows (suc i) = λ c a c_in a_in e. next_wider (ladder C A (suc i)) (ladder C A i) (ladder_narrows i) c a e

  pub ladder_falls : (i j : ℕ) → i ≤ j → Narrower (ladder C A j) (ladder C A i)
  ladder_falls i zero h = λ c a c_in a_in e. let none : i ≡ 0 = omega arith in rw none e
  ladder_falls i (suc j) h = λ c a c_in a_in e. ⊎_elim (λ same. rw same e) (λ less. ladder_falls i j (omega arith) c a c_in a_in (ladder_narrows j c a c_in a_in e)) (cases_eq i (suc j))

  -- the rung i joins what the next one joins
  abbrev pub Rests : ℕ → Type 0
  Rests i = (c : ℕ) → c < states C → (a : ℕ) → a < states A → ladder C A i c a ≡ ladder C A (suc i) c a

  rests_on : (i : ℕ) → Rests i → Rests (suc i)
  rests_on i h c c_in a a_in =
      tests_same (ladder C A (suc i) c a) (ladder C A (suc (suc i)) c a)
      (next_wider (ladder C A i) (ladder C A (suc i)) (λ c a c_in a_in e. sym (h c c_in a a_in) ∙ e) c a)
      (next_wider (ladder C A (suc i)) (ladder C A i) (λ c a c_in a_in e. h c c_in a a_in ∙ e) c a)

  -- how many pairs of states the rung i keeps apart
  apart : ℕ → ℕ
  apart i = total (states C) (λ c. total (states A) (λ a. bit (not (ladder C A i c a))))

  apart_within : (i : ℕ) → apart i ≤ states C * states A
  unfolding apart
  apart_within i =
      total_within (states C) (states A) (λ c. total (states A) (λ a. bit (not (ladder C A i c a))))
      (λ c lt. let row = total_within (states A) 1 (λ a. bit (not (ladder C A i c a))) (λ a within. bit_within (not (ladder C A i c a))) in omega arith)

  rests_or_grows : (i : ℕ) → Rests i ⊎ (apart i < apart (suc i))
  unfolding apart
  rests_or_grows i =
      ⊎_elim (λ h. inl h.0) inr
      (total_grows (states C) (λ c. total (states A) (λ a. bit (not (ladder C A i c a)))) (λ c. total (states A) (λ a. bit (not (ladder C A (suc i) c a)))) (λ c. (a : ℕ) → a < states A → ladder C A i c a ≡ ladder C A (suc i) c a)
      (λ c c_in. total_grows (states A) (λ a. bit (not (ladder C A i c a))) (λ a. bit (not (ladder C A (suc i) c a))) (λ a. ladder C A i c a ≡ ladder C A (suc i) c a)
      (λ a a_in. bit_falls (ladder C A i c a) (ladder C A (suc i) c a) (ladder_narrows i c a c_in a_in))))

  -- With a step for each pair of states the ladder is at rest.
  pub ladder_rests : (i : ℕ) → states C * states A ≤ i → Rests i
  ladder_rests = settles Rests apart (states C * states A) rests_or_grows rests_on apart_within

  -- A rung at rest is a refinement.
  pub resting_refines : (i : ℕ) → Rests i → Refines C A (ladder C A i)
  resting_refines i rest = record {
    lights = λ c a l j. (step c a j).lights l;
    certain_moves = λ c a x t j. (step c a j).certain_moves x t;
    possible_moves = λ c a x t j. (step c a j).possible_moves x t;
  }
    where
      step : (c a : ℕ) → Joined C A (ladder C A i) c a → Stepped C A (ladder C A i) c a
      step c a j = next_to (ladder C A i) c a (sym (rest c j.lower a j.upper) ∙ j.related)

  -- Every rung joins what any refinement joins.
  pub ladder_widest : (R : ℕ → ℕ → Bool) → Refines C A R → (i : ℕ) → Narrower R (ladder C A i)
  ladder_widest R refines zero = λ c a c_in a_in e. refl
  ladder_widest R refines (suc i) = λ c a c_in a_in e.
      let j : Joined C A R c a = record { lower = c_in; upper = a_in; related = e } in
      let step : Stepped C A R c a = record { lights = λ l. refines.lights c a l j; certain_moves = λ x t. refines.certain_moves c a x t j; possible_moves = λ x t. refines.possible_moves c a x t j } in
      next_from (ladder C A i) c a (stepped_wider R (ladder C A i) (ladder_widest R refines i) c a step)
