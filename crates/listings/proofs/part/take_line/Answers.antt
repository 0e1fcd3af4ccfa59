use Rattle.listings.proofs.part.take_line.Goals as goal

pub returns-in-SizesNames-clause-answer : goal.returns-in-SizesNames-clause-answer
returns-in-SizesNames-clause-answer g c = rw c.in-SizesNames.is (c.expect.ensures (g.B.Builder.making c.args.builder.now))

pub returns-in-MovesNames-clause-answer : goal.returns-in-MovesNames-clause-answer
returns-in-MovesNames-clause-answer g c = rw c.in-MovesNames.is (c.expect-in-MovesNames.ensures (g.B.Builder.making c.args.builder.now))
