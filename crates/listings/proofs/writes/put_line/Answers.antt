use Rattle.listings.proofs.Writing.{writes_puts}
use Rattle.listings.proofs.writes.put_line.Goals as goal

pub returns : goal.returns
returns c = writes_puts c.args.writer.now c.write_bytes.new.self c.write_bytes-2.new.self _ _ c.write_bytes.ensures c.write_bytes-2.ensures
