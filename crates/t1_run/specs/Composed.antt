-- What is kept of the runs of glyphs.
use Rattle.std.specs.Prelude.{List}
use Rattle.t1_run.specs.{declared.answer.Mark.{Mark}, declared.answer.Halt.{Halt}, State.{Ending}, Machine.{ending_of}}
use Rattle.t1_run.specs.declared.answer.Halt.TheVariants as halt

-- How a run ended, by the marks of what is kept of it.
abbrev pub own_ending : {T : Type 0} → (T → List Mark) → Halt × T → Ending
own_ending marks own = ending_of own.0 (marks own.1)

-- P where a run ended as that of a plain glyph.
abbrev pub WherePlain : Halt → Type 0 → Type 0
WherePlain (halt.Plain m) P = P
WherePlain (halt.Seac a) P = Unit {0}
WherePlain (halt.Failed f) P = Unit {0}

-- P of what is kept of a plain glyph's run.
abbrev pub IsPlainOwn : {T : Type 0} → (T → Type 0) → Halt × T → Type 0
IsPlainOwn P own = WherePlain own.0 (P own.1)
