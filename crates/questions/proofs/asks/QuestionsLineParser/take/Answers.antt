use Rattle.std.proofs.Common.{◌≡◌, rules, sym, subst}
use Rattle.frames.specs.Drafts.{drafting}
use Rattle.frames.specs.Frames.{draft_meaning}
use Rattle.listings.specs.Runs.{verdict_at}
use Rattle.questions.specs.Takes.{Takes}
use Rattle.questions.proofs.asks.QuestionsLineParser.take.Goals as goal

pub returns : goal.returns
returns c =
    let p = c.args.self.now in
    let q = c.take_line.new.self in
    let same : c.map_err.result ≡ verdict_at c.args.number c.take_line.result = search rules in
    subst (λ v. Takes (drafting (draft_meaning p.draft)) p.phase p.count c.args.number c.args.line.now (drafting (draft_meaning q.draft)) q.phase q.count v) (sym same) (c.take_line.ensures c.args.number)
