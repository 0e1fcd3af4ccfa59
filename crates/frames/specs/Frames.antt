-- What a frame means, and a draft.
use Rattle.systems.specs.Meaning.{Meaning}
use Rattle.frames.specs.Grids.{frame_meaning}
use Rattle.frames.specs.declared.draft.Draft.{Draft}
use Rattle.frames.specs.declared.frame.Frame.{Frame}

abbrev pub meaning_of : Frame → Meaning
meaning_of f = frame_meaning f.bounds.sizes f.grid

-- what a draft means so far
abbrev pub draft_meaning : Draft → Meaning
draft_meaning d = meaning_of d.frame
