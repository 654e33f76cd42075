-- The words that proofs of this crate use again and again.
pub use Rattle.std.specs.List.{list_any, list_all, AllByRecursion}
pub use Rattle.std.specs.Ordering.{eq_by_cmp}
pub use Rattle.std.specs.Cmp.{IsTotalOrder, nat_cmp_total, first_so, second_so}
pub use Rattle.std.specs.Cmp.Lexicographic.{nat_list_cmp_total}
pub use Rattle.std.specs.FinSet.{IsAntisymmetric, nat_cmp-IsAntisymmetric}
pub use Rattle.t1_algebra.specs.Interpreter.{Interpreter, Names, same_bytes}
