-- `Hands` has what a check, a rank, a look and a flip of the first places of a walk say, and what a call answers. `Moves` has that
-- the walk of a rank moves on to the walk of the next.
pub mod Hands
pub mod Moves
