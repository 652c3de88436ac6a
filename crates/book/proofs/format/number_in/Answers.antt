use Rattle.std.proofs.Common.{rules, arith}
use Rattle.book.proofs.Bytes.{nothing_read, room, byte_low, byte_read}
use Rattle.book.proofs.format.number_in.Goals as goal

pub loop-byte-init : goal.loop-byte-init
loop-byte-init c = search (rules, nothing_read)

pub overflow_mul-number : goal.overflow_mul-number
overflow_mul-number c =
    omega (arith, room _ _ c.type_inv.bytes c.requires c.loop-byte.invariant c.in-Some.ensures.steps)

pub overflow_add-number : goal.overflow_add-number
overflow_add-number c =
    omega (arith, room _ _ c.type_inv.bytes c.requires c.loop-byte.invariant c.in-Some.ensures.steps, byte_low _ _ c.type_inv.bytes c.requires c.loop-byte.invariant c.in-Some.ensures.steps)

pub loop-byte-preserved : goal.loop-byte-preserved
loop-byte-preserved c =
    byte_read _ _ c.type_inv.bytes c.requires c.loop-byte.invariant c.in-Some.ensures.steps c.from.ensures
