use Rattle.std.proofs.Common.{◌≤◌, List, ℕ, ◌++◌, length, take, drop, IfOk, sym, ap, subst, ◌∙◌}
use Rattle.frames.specs.Frames.{draft_meaning}
use Rattle.output.proofs.Taken.{taken}
use Rattle.output.proofs.listing.Goals as goal

pub returns : goal.returns
returns c =
    let buffer = c.deref_mut.result.now in
    let now = c.write.new.buffer in
    let n = c.unwrap-length.result in
    let len = c.in_ok-text.text.len in
    let whole = c.deref_mut.ensures.len in
    let within : n ≤ length buffer = subst (λ r. IfOk r (λ k. k ≤ length buffer)) c.unwrap-length.ensures c.write.ensures.within in
    c.truncate.ensures.items
    ∙ ap (λ (xs : List ℕ). take n (take len (now ++ drop (length now) xs))) (sym c.deref_mut.ensures.value)
    ∙ taken (draft_meaning c.args.draft.now) buffer now n len (whole ∙ c.in_ok-text.ensures.len ∙ c.room.ensures) (sym c.unwrap-length.ensures ∙ c.write.ensures.answer) c.write.ensures.after (subst (λ k. n ≤ k) whole within)
