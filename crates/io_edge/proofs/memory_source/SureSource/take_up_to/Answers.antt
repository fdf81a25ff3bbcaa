use Rattle.std.proofs.Common.{◌+◌, ◌≤◌, length, arith}
use Rattle.io_edge.proofs.Pieces.{front_and_rest}
use Rattle.io_edge.proofs.memory_source.SureSource.take_up_to.Goals as goal

pub returns-clause-bytes : goal.returns-clause-bytes
returns-clause-bytes c =
    let within : c.args.self.now.at + c.min-count.result ≤ length c.args.self.now.bytes.items = omega (arith, c.args.self.now.within, c.min-count.ensures, c.min.ensures, c.len.ensures) in
    front_and_rest c.args.self.now.bytes.items _ c.copy_from_slice.new.self c.args.buf.now c.args.self.now.at c.min-count.result _ within c.copy_from_slice.ensures.after (omega arith) c.deref.ensures.value
