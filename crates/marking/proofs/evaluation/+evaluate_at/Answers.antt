use Rattle.std.proofs.Common.{rules}
use Rattle.std.proofs.lemmas.Bool.{both_ways}
use Rattle.frames.specs.Frames.{meaning_of}
use Rattle.marking.proofs.Binders.{is_binder}
use Rattle.marking.proofs.Iterated.{only_with, reached_next, reached_less, reached_last}
use Rattle.marking.proofs.evaluation.+evaluate_at.Goals as goal

pub evaluate_at-next-requires : goal.evaluate_at-next-requires
evaluate_at-next-requires t c =
    (search rules, (search rules, only_with (meaning_of c.args.frame.now) c.args.values _ c.in-Least.v c.loop-body.pair c.with.ensures c.requires.only c.loop-body.invariant.only))

pub returns-then-same : goal.returns-then-same
returns-then-same t c = reached_last c.with.ensures c.loop-body.invariant c.evaluate_at-next.ensures (is_binder c.in-Prefix.ensures.parts.0 c.in-Least.is) (c.same.ensures.0 c.if-same.true)

pub loop-body-smaller : goal.loop-body-smaller
loop-body-smaller t c = reached_less c.with.ensures c.loop-body.invariant c.evaluate_at-next.ensures (λ all. both_ways _ c.if-same.false (c.same.ensures.1 all))

pub loop-body-preserved : goal.loop-body-preserved
loop-body-preserved t c = reached_next c.with.ensures c.loop-body.invariant c.evaluate_at-next.ensures (is_binder c.in-Prefix.ensures.parts.0 c.in-Least.is) c.requires.closed
