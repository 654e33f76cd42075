-- Sizes of numbers as the code has them, without where they lie in memory.
use Rattle.t1_text.specs.{declared.numbers.Size.{Size as CodeSize}, Numbers.{Size}}

abbrev pub size_view : CodeSize → Size
size_view s = record { whole = s.whole.now; fraction = s.fraction.now }
