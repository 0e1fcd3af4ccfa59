-- The text of a frame reads back as the same frame.
use Rattle.std.proofs.Common.{false, ◌≡◌, ◌<◌, ◌≤◌, Ok, refl, ap, arith}
use Rattle.std.proofs.lemmas.Bool.Decides.{nat_tests}
use Rattle.listings.proofs.Copied.{copied, moves_in, all_copied}
use Rattle.frames.specs.Frames.{meaning_of}
use Rattle.frames.specs.declared.frame.Frame.{Frame}
use Rattle.listings.proofs.Fitting.{framed}
use Rattle.frames.specs.Drafts.{drafting}
use Rattle.sets.specs.Sets.{width}
use Rattle.systems.specs.Edits.{size_answer}
use Rattle.systems.specs.Making.{Making}
use Rattle.systems.specs.Meaning.{Meaning, blank, first_sizes}
use Rattle.systems.specs.declared.places.Sizes.{Sizes}
use Rattle.listings.specs.Forms.{sizes_names, moves_names, lights_names, sizes_text}
use Rattle.listings.specs.Texts.{Framed, ReadsBack, heading, frame_text}
use Rattle.listings.specs.declared.part.Stage.TheVariants.{SizesNames, Sizes as SizesValues, MovesNames, Moves, Lights}
use Rattle.listings.proofs.BackLights.{lights_lead}
use Rattle.listings.proofs.BackLines.{Leads, leads_as, leads_both, leads_line, leads_reads}
use Rattle.listings.proofs.BackMoves.{moves_lead}
use Rattle.listings.proofs.Shown.{sizes_shown, sizes_no_feed}

-- sizes that a draft takes
module _ (z : Sizes) (some_states : 0 < z.states) (few_states : z.states ≤ width) (few_actions : z.actions ≤ 8) (few_lamps : z.lamps ≤ 8) (started : z.start < z.states) where
  sizes_lead : Leads SizesValues (drafting (blank first_sizes)) (heading (sizes_text z)) MovesNames (drafting (blank z))
  sizes_lead =
      let taken : size_answer width z ≡ Ok tt = grind (arith, nat_tests) in
      leads_line (sizes_text z) (sizes_no_feed z) (rw (sizes_shown z (omega arith) (omega arith) (omega arith) (omega arith), taken))

-- the lines of names
sizes_named : (m : Making) → Leads SizesNames m (heading sizes_names) SizesValues m
sizes_named m = leads_line sizes_names refl refl

moves_named : (m : Making) → Leads MovesNames m (heading moves_names) Moves m
moves_named m = leads_line moves_names refl refl

lights_named : (m : Making) → Leads Moves m (heading lights_names) Lights m
lights_named m = leads_line lights_names refl refl

pub reads_back : (M : Meaning) → Framed M → ReadsBack M
reads_back M framed short =
    let lawful = framed.lawful in
    leads_reads (drafting (blank first_sizes)) (drafting M) (frame_text M) short
    (leads_as refl (ap drafting (all_copied M lawful))
    (leads_both (sizes_named (drafting (blank first_sizes)))
    (leads_both (sizes_lead M.sizes framed.some_states framed.few_states lawful.few_actions lawful.few_lamps (lawful.started framed.some_states))
    (leads_both (moves_named (drafting (blank M.sizes)))
    (leads_both (moves_lead M framed.few_states lawful.few_actions)
    (leads_both (lights_named (drafting (copied (moves_in M) (λ _. false) M)))
    (lights_lead M (copied (moves_in M) (λ _. false) M) refl (λ s l. refl) framed.few_states lawful.few_lamps)))))))

pub frame_reads_back : (f : Frame) → ReadsBack (meaning_of f)
frame_reads_back f = reads_back (meaning_of f) (framed f)
