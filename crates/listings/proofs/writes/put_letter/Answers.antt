use Rattle.listings.proofs.Writing.{writes_puts}
use Rattle.listings.proofs.writes.put_letter.Goals as goal

pub returns : goal.returns
returns c = writes_puts c.args.writer.now c.write_number.new.self c.write_bytes.new.self _ _ c.write_number.ensures c.write_bytes.ensures
