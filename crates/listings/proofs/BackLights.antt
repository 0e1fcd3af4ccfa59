-- The lights of a system's text, read one after another into a system that has none.
use Rattle.std.proofs.Common.{◌≡◌, ℕ, ◌<◌, ◌≤◌, Bool, false, ◌&&◌, eqb, ltb, [], ◌∷◌, ◌++◌, Ok, sym, refl, ap, ◌∙◌, arith}
use Rattle.std.proofs.lemmas.Bool.Decides.{nat_tests}
use Rattle.frames.specs.Drafts.{drafting}
use Rattle.sets.specs.Sets.{width}
use Rattle.systems.specs.Edits.{light_answer}
use Rattle.systems.specs.Making.{Making}
use Rattle.systems.specs.Meaning.{Meaning, states, lamps, with_light}
use Rattle.systems.specs.Words.{shown}
use Rattle.systems.specs.declared.kinds.Light.{Light}
use Rattle.systems.specs.declared.kinds.Light.TheVariants.{Unknown, On, Off}
use Rattle.systems.specs.declared.kinds.Setting.{Setting}
use Rattle.systems.specs.declared.kinds.Setting.TheVariants.{On as TurnOn, Off as TurnOff}
use Rattle.systems.specs.declared.places.LampAt.{LampAt}
use Rattle.listings.specs.Forms.{light_text}
use Rattle.listings.specs.Texts.{light_line, lights_text}
use Rattle.systems.specs.Entries.{LightEntry}
use Rattle.listings.specs.declared.part.Stage.TheVariants.{Lights}
use Rattle.listings.proofs.BackLines.{Leads, leads_none, leads_as, leads_line}
use Rattle.listings.proofs.Copied.{lit_from, lights_in, that_light, one_light, same_light}
use Rattle.listings.proofs.Covering.{Covers, covers_over, covers_one}
use Rattle.listings.proofs.Shown.{light_shown, light_no_feed}

-- a light that a draft's system X does not know, set by its line
module _ (X : Meaning) (at : LampAt) (few_states : states X ≤ width) (few_lamps : lamps X ≤ 8) (in_s : at.state < states X) (in_l : at.lamp < lamps X) (unknown : X.light at.state at.lamp ≡ Unknown) where
  lights : light_answer X at.state at.lamp ≡ Ok tt
  lights = grind (arith, nat_tests)

  set_leads : (v : Setting) → Leads Lights (drafting X) (light_text (record { at = at; value = v }) ++ (10 ∷ [])) Lights (drafting (with_light X at.state at.lamp (shown v)))
  set_leads v =
      let e : LightEntry = record { at = at; value = v } in
      leads_line (light_text e) (light_no_feed e)
      (rw (light_shown e (omega arith) (omega arith), lights))

  -- an unknown light has no line, and leaves the system as it is
  light_leads : (v : Light) → Leads Lights (drafting X) (light_line v at.state at.lamp) Lights (drafting (with_light X at.state at.lamp v))
  light_leads Unknown = leads_none (ap drafting (sym (same_light X at) ∙ ap (with_light X at.state at.lamp) unknown))
  light_leads On = set_leads TurnOn
  light_leads Off = set_leads TurnOff

-- M's lights, read into a system B of the same sizes
module _ (M B : Meaning) (sizes : B.sizes ≡ M.sizes) (unknown : (s l : ℕ) → B.light s l ≡ Unknown) (few_states : states M ≤ width) (few_lamps : lamps M ≤ 8) where
  same_states : states B ≡ states M
  same_states i = (sizes i).states

  same_lamps : lamps B ≡ lamps M
  same_lamps i = (sizes i).lamps

  -- B with M's lights at the places that q names
  abbrev made : (LampAt → Bool) → Making
  made q = drafting (lit_from q M B)

  one_covers : (at : LampAt) → at.state < states M → at.lamp < lamps M → Covers Lights made (light_line (M.light at.state at.lamp) at.state at.lamp) (that_light at)
  one_covers at in_s in_l = covers_one at (grind (arith, nat_tests)) λ q new.
      leads_as refl (ap drafting (one_light M B q at))
      (light_leads (lit_from q M B) at (omega (arith, same_states)) (omega (arith, same_lamps)) (omega (arith, same_states)) (omega (arith, same_lamps)) (rw new (unknown at.state at.lamp)) (M.light at.state at.lamp))

  lights_cover : Covers Lights made (lights_text M) (lights_in M)
  lights_cover =
      covers_over (λ x. x.state) (λ x b. b && ltb x.lamp (lamps M)) (λ x. refl) _ (states M) λ s in_s.
      covers_over (λ x. x.lamp) (λ x b. eqb x.state s && b) (λ x. grind (arith, nat_tests)) _ (lamps M) λ l in_l.
      one_covers (record { state = s; lamp = l }) in_s in_l

  pub lights_lead : Leads Lights (drafting B) (lights_text M) Lights (drafting (lit_from (lights_in M) M B))
  lights_lead = lights_cover.leads (λ _. false) (λ x. refl)
