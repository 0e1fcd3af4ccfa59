use Rattle.std.proofs.Common.{unwrap_or, None, sym, ◌∙◌, arith}
use Rattle.std.proofs.Math.ListN.{get_or-map}
use Rattle.std.proofs.lemmas.List.{ext_get_or, length-map}
use Rattle.frames.proofs.Tables.{written}
use Rattle.quotients.proofs.map.ClassMap.to_classes.Goals as goal

pub loop-state-preserved : goal.loop-state-preserved
loop-state-preserved c = written c.loop-state.invariant c.unwrap_or.result (omega arith) c.unwrap_or.ensures

pub returns : goal.returns
returns c =
    let l = c.loop-state.invariant in
    ext_get_or 0 _ _ (simp length-map (omega (arith, l.long))) λ i h.
    l.done i (omega (arith, l.long)) ∙ sym (get_or-map (λ k. unwrap_or k 0) c.args.self.now.classes i None)
