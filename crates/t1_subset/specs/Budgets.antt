-- The tokens that the glyphs of fonts take, and what calls within a budget of tokens answer.
use Rattle.std.specs.{Prelude.{◌≡◌, ◌⊎◌, ◌+◌, ◌≤◌, ℕ, List, [], ◌∷◌, not, cond, filter, Option, Some, None, Result, Ok, Err, MatchResult}, Option.{is_some}}
use Rattle.std.specs.List.{sum_by, find, AllByRecursion}
use Rattle.t1_run.specs.{declared.budget.Stop.{Stop}, Budgets.{tokens_of, HasFewer}}
use Rattle.t1_font.specs.{FontValue.{FontValue, names_in}, IsFont.{IsFont}}
use Rattle.t1_algebra.specs.{Interpreter.{Names}, Keep.{charstring, has, keep}, Profile.{profile}, Merges.{ComesTo}, Conflicts.{shell_conflict}, Lacks.{lack_in}}
use Rattle.t1_subset.specs.{declared.budgets.BudgetFault.{BudgetFault}, declared.budgets.BudgetFault.TheVariants.{TooManyTokens, Plain}}
use Rattle.t1_subset.specs.{declared.conflict.Conflict.{Conflict}, declared.conflict.Conflict.TheVariants.{Memory}}
use Rattle.t1_subset.specs.{Merger.{NotMerged}, References.{same_charstring}, Lacks.{have_same_subrs}}
use Rattle.t1_run.specs.declared.budget.Stop.TheVariants as stop
use Rattle.std.specs.FinMap as maps
use Rattle.std.specs.FinSet as sets

-- The tokens that the runs of a glyph take.
unfoldable pub glyph_tokens : FontValue → List ℕ → ℕ
glyph_tokens f n = tokens_of (maps.get f.subrs) (charstring f n)

-- The tokens that these glyphs take, of which one whose charstring is that of the glyph before takes none; this is that of the glyph before the first.
unfoldable pub tokens_from : FontValue → Option (List ℕ) → List (List ℕ) → ℕ
tokens_from f before [] = 0
tokens_from f before (n ∷ ns) = cond (same_charstring before (maps.get f.glyphs n)) 0 (glyph_tokens f n) + tokens_from f (maps.get f.glyphs n) ns

-- The tokens that all glyphs of a font take, by name.
abbrev pub font_tokens : FontValue → ℕ
font_tokens f = tokens_from f None (names_in f.glyphs)

-- The tokens that all glyphs of all these fonts take.
abbrev pub fonts_tokens : List FontValue → ℕ
fonts_tokens fs = sum_by font_tokens fs

-- The tokens that a merge takes: those of all fonts, or none if the first two don't share what they have to.
abbrev pub merge_tokens : List FontValue → ℕ
merge_tokens [] = 0
merge_tokens (f ∷ []) = fonts_tokens (f ∷ [])
merge_tokens (f ∷ g ∷ fs) = cond (is_some (shell_conflict f g)) 0 (fonts_tokens (f ∷ g ∷ fs))

-- The tokens that these fonts take, up to and with the first that lacks a Subr that one of all fonts has.
unfoldable pub tokens_to_lack : (all : List FontValue) → List FontValue → ℕ
tokens_to_lack all [] = 0
tokens_to_lack all (f ∷ fs) = font_tokens f + cond (is_some (lack_in all f)) 0 (tokens_to_lack all fs)

-- The tokens that a rejoining takes: those of the fonts up to the first that lacks a Subr.
abbrev pub rejoin_tokens : List FontValue → ℕ
rejoin_tokens fs = tokens_to_lack fs fs

-- The tokens that a search for a lack takes: none if all fonts have Subrs at the same indices.
abbrev pub lack_tokens : List FontValue → ℕ
lack_tokens [] = 0
lack_tokens (f ∷ fs) = cond (have_same_subrs f (f ∷ fs)) 0 (rejoin_tokens (f ∷ fs))

-- The names of a font's glyphs that a set of names keeps.
abbrev pub kept_names : FontValue → Names → List (List ℕ)
kept_names f asked = filter (sets.contains (keep profile f asked)) (names_in f.glyphs)

-- The tokens that all glyphs that are kept take, each of them its own.
abbrev pub kept_tokens : FontValue → Names → ℕ
kept_tokens f asked = sum_by (glyph_tokens f) (kept_names f asked)

-- The tokens that a subset of these names takes: those of the glyphs that are kept, or none if a name is absent.
abbrev pub subset_tokens : FontValue → List (List ℕ) → ℕ
subset_tokens f names = cond (is_some (find (λ n. not (has f n)) names)) 0 (kept_tokens f (sets.from_list names))

-- So many tokens are allowed.
abbrev pub IsEnough : Option ℕ → ℕ → Type 0
IsEnough None tokens = Unit {0}
IsEnough (Some left) tokens = tokens ≤ left

-- What a call answers without a budget is so.
abbrev pub OnPlain : {A E : Type 0} → Result A (BudgetFault E) → (Result A E → Type 0) → Type 0
OnPlain (Ok a) P = P (Ok a)
OnPlain (Err (Plain e)) P = P (Err e)
OnPlain (Err TooManyTokens) P = Unit {0}

-- Why a call has no answer where a run stopped: too many tokens, or its own want of memory.
abbrev pub stopped : {E : Type 0} → Stop → E → BudgetFault E
stopped stop.TooManyTokens memory = TooManyTokens
stopped stop.Memory memory = Plain memory

-- Why a call that takes so many tokens is refused: fewer are left; or they are left, and there is another reason; or memory is refused, which is this reason.
abbrev pub RefusedWithin : {E : Type 0} → (memory : E) → Option ℕ → ℕ → BudgetFault E → Type 0
RefusedWithin memory left tokens TooManyTokens = HasFewer left tokens
RefusedWithin memory left tokens (Plain e) = (e ≡ memory) ⊎ IsEnough left tokens

-- A call that takes so many tokens answers only if they are left, and is refused for one of these reasons.
abbrev pub IsWithin : {A E : Type 0} → (memory : E) → Option ℕ → ℕ → Result A (BudgetFault E) → Type 0
IsWithin memory left tokens (Ok a) = IsEnough left tokens
IsWithin memory left tokens (Err e) = RefusedWithin memory left tokens e

-- Why runs that take so many tokens stop: fewer are left, or memory is refused.
abbrev pub StoppedWithin : Option ℕ → ℕ → Stop → Type 0
StoppedWithin left tokens stop.TooManyTokens = HasFewer left tokens
StoppedWithin left tokens stop.Memory = Unit {0}

-- A call that takes so many tokens answers only if they are left, and stops only where runs do.
abbrev pub StopsWithin : {A : Type 0} → Option ℕ → ℕ → Result A Stop → Type 0
StopsWithin left tokens (Ok a) = IsEnough left tokens
StopsWithin left tokens (Err s) = StoppedWithin left tokens s

-- What one or more fonts come to, or why they don't merge.
abbrev pub IsMergerOf : List FontValue → Result FontValue Conflict → Type 0
IsMergerOf fs r = MatchResult r (λ j. ComesTo fs j) (λ e. NotMerged fs e)

-- The same of a list of fonts, all of which are fonts, or a growth was refused.
abbrev pub IsMergerOfFonts : List FontValue → Result FontValue Conflict → Type 0
IsMergerOfFonts fs r = IsMergerOf fs r × ((r ≡ Err Memory) ⊎ AllByRecursion IsFont fs)
