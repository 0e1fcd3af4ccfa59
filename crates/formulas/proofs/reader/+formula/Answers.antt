use Rattle.std.proofs.Common.{arith}
use Rattle.formulas.proofs.Refused.{prefix_unread, right_unread, close_unread}
use Rattle.formulas.proofs.Made.{leaf_stands, fork_stands}
use Rattle.formulas.proofs.reader.+formula.Goals as goal

pub returns-in-Atom : goal.returns-in-Atom
returns-in-Atom t c = leaf_stands c.args.nodes.now c.args.count c.args.text.now c.args.place c.in-Atom.l (cc (c.in_ok-l.was)) c.requires.few (omega (arith, c.told-nodes))

pub returns-in_err-body-in-Operator : goal.returns-in_err-body-in-Operator
returns-in_err-body-in-Operator t c =
    rw c.from_residual-in_err-body-in-Operator.ensures (prefix_unread c.args.text.now c.args.place c.in-Operator.p c.width.result (cc (c.in_ok-l.was)) c.width.ensures c.in_err-body-in-Operator.ensures)

pub returns-in_err-right-in-Open : goal.returns-in_err-right-in-Open
returns-in_err-right-in-Open t c =
    let left = c.in_ok-left-in-Open.ensures in
    rw c.from_residual-in_err-right-in-Open.ensures
    (right_unread c.args.text.now c.args.place (cc (c.in_ok-l.was)) left.formula left.lettered c.in_ok-left-in-Open.left.end left.spelled c.byte.result c.in_ok-sign-in-Open.sign c.byte.ensures c.in_ok-sign-in-Open.ensures c.in_err-right-in-Open.ensures)

pub returns-then-byte-ne41 : goal.returns-then-byte-ne41
returns-then-byte-ne41 t c =
    let left = c.in_ok-left-in-Open.ensures in
    let right = c.in_ok-right-in-Open.ensures in
    close_unread c.args.text.now c.args.place (cc (c.in_ok-l.was)) left.formula left.lettered c.in_ok-left-in-Open.left.end left.spelled c.byte.result c.in_ok-sign-in-Open.sign c.byte.ensures c.in_ok-sign-in-Open.ensures
    right.formula right.lettered c.in_ok-right-in-Open.right.end right.spelled c.byte-in-Open.result c.byte-in-Open.ensures c.if-byte-ne41.true

pub returns-else-byte-ne41 : goal.returns-else-byte-ne41
returns-else-byte-ne41 t c =
    fork_stands c.args.nodes.now c.args.count c.args.text.now c.args.place c.formula-in-Open.new.nodes c.formula-in-Open-2.new.nodes c.in_ok-sign-in-Open.sign c.in_ok-left-in-Open.left c.in_ok-right-in-Open.right c.byte.result c.byte-in-Open.result
    (cc (c.in_ok-l.was)) c.in_ok-left-in-Open.ensures c.byte.ensures c.in_ok-sign-in-Open.ensures c.in_ok-right-in-Open.ensures c.byte-in-Open.ensures c.if-byte-ne41.false c.requires.few (omega arith)
