-- The moves of a system's text, read one after another.
use Rattle.std.proofs.Common.{◌≡◌, ◌<◌, ◌≤◌, Bool, false, ◌&&◌, eqb, ltb, [], ◌∷◌, ◌++◌, Ok, sym, refl, ap, ◌∙◌, arith}
use Rattle.std.proofs.lemmas.Bool.Decides.{nat_tests}
use Rattle.frames.specs.Drafts.{drafting}
use Rattle.sets.specs.Sets.{width}
use Rattle.systems.specs.Edits.{draw_answer}
use Rattle.systems.specs.Making.{Making}
use Rattle.systems.specs.Meaning.{Meaning, states, actions, blank, with_move}
use Rattle.systems.specs.Words.{drawn}
use Rattle.systems.specs.declared.kinds.Kind.{Kind}
use Rattle.systems.specs.declared.kinds.Kind.TheVariants.{Absent, Optional, Certain}
use Rattle.systems.specs.declared.kinds.Modality.{Modality}
use Rattle.systems.specs.declared.kinds.Modality.TheVariants.{May, Must}
use Rattle.systems.specs.declared.places.Move.{Move}
use Rattle.listings.specs.Forms.{move_text}
use Rattle.listings.specs.Texts.{move_line, moves_text}
use Rattle.systems.specs.Entries.{MoveEntry}
use Rattle.listings.specs.declared.part.Stage.TheVariants.{Moves}
use Rattle.listings.proofs.BackLines.{Leads, leads_none, leads_as, leads_line}
use Rattle.listings.proofs.Copied.{copied, moves_in, that_move, one_move, same_move}
use Rattle.listings.proofs.Covering.{Covers, covers_over, covers_one}
use Rattle.listings.proofs.Shown.{move_shown, move_no_feed, move_not_names}

-- a move that a draft's system X lacks, drawn by its line
module _ (X : Meaning) (at : Move) (few_states : states X ≤ width) (few_actions : actions X ≤ 8) (in_s : at.from < states X) (in_a : at.action < actions X) (in_t : at.to < states X) (absent : X.kind at.from at.action at.to ≡ Absent) where
  draws : draw_answer X at.from at.action at.to ≡ Ok tt
  draws = grind (arith, nat_tests)

  drawn_leads : (k : Modality) → Leads Moves (drafting X) (move_text (record { at = at; value = k }) ++ (10 ∷ [])) Moves (drafting (with_move X at.from at.action at.to (drawn k)))
  drawn_leads k =
      let e : MoveEntry = record { at = at; value = k } in
      leads_line (move_text e) (move_no_feed e)
      (rw (move_not_names e, move_shown e (omega arith) (omega arith) (omega arith), draws))

  -- an absent move has no line, and leaves the system as it is
  kind_leads : (k : Kind) → Leads Moves (drafting X) (move_line k at.from at.action at.to) Moves (drafting (with_move X at.from at.action at.to k))
  kind_leads Absent = leads_none (ap drafting (sym (same_move X at) ∙ ap (with_move X at.from at.action at.to) absent))
  kind_leads Optional = drawn_leads May
  kind_leads Certain = drawn_leads Must

module _ (M : Meaning) (few_states : states M ≤ width) (few_actions : actions M ≤ 8) where
  -- M's moves at the places that p names
  abbrev made : (Move → Bool) → Making
  made p = drafting (copied p (λ _. false) M)

  one_covers : (at : Move) → at.from < states M → at.action < actions M → at.to < states M → Covers Moves made (move_line (M.kind at.from at.action at.to) at.from at.action at.to) (that_move at)
  one_covers at in_s in_a in_t = covers_one at (grind (arith, nat_tests)) λ p new.
      leads_as refl (ap drafting (one_move M p (λ _. false) at))
      (kind_leads (copied p (λ _. false) M) at few_states few_actions in_s in_a in_t (rw new) (M.kind at.from at.action at.to))

  moves_cover : Covers Moves made (moves_text M) (moves_in M)
  moves_cover =
      covers_over (λ x. x.from) (λ x b. b && ltb x.action (actions M) && ltb x.to (states M)) (λ x. refl) _ (states M) λ s in_s.
      covers_over (λ x. x.action) (λ x b. eqb x.from s && b && ltb x.to (states M)) (λ x. grind (arith, nat_tests)) _ (actions M) λ a in_a.
      covers_over (λ x. x.to) (λ x b. eqb x.from s && eqb x.action a && b) (λ x. grind (arith, nat_tests)) _ (states M) λ t in_t.
      one_covers (record { from = s; action = a; to = t }) in_s in_a in_t

  pub moves_lead : Leads Moves (drafting (blank M.sizes)) (moves_text M) Moves (drafting (copied (moves_in M) (λ _. false) M))
  moves_lead = moves_cover.leads (λ _. false) (λ x. refl)
