-- The count stays within the bytes, whose length no read changes.
use Rattle.std.proofs.Common.{◌≡◌, ◌≤◌, length}
use Rattle.print.proofs.read_full.Given as goal

abbrev pub invariant-loop : goal.invariant-loop
invariant-loop g l = (l.count ≤ length l.bytes) × (length l.bytes ≡ length l.initial.bytes)
