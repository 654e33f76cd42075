-- What the runs of charstrings in code name and execute is what they do by the interpreter of the laws.
use Rattle.std.proofs.Common.{◌≡◌, ℕ, List, [], sym, ap, ◌∙◌, Some, None, unwrap_or, flat_map}
use Rattle.t1_run.specs.Run.{Subrs, direct, direct3, exec}
use Rattle.t1_font.{specs.{FontValue.{FontValue}, FontModel.{subr_at}, IsFont.{IsFont}}, proofs.FontReaders.{all_seen}}
use Rattle.t1_algebra.specs.{Keep.{components, charstring}, Profile.{profile, names_of_both, set_of}, Interpreter.{Numbers}}
use Rattle.std.specs.FinMap as maps
use Rattle.std.specs.FinSet as sets

-- ---- components

-- the components of a charstring, by the Subrs that a font shows
abbrev pub names_by : Subrs → List ℕ → List (List ℕ)
names_by s c = names_of_both (direct s c, direct3 s c)

-- the components that runs in code name are those of the definition
pub components_are : (f : FontValue) → IsFont f → (n c : List ℕ) → maps.get f.glyphs n ≡ Some c →
    names_by (subr_at f) c ≡ components profile f.subrs (charstring f n)
unfolding profile
components_are f h n c e = ap (λ s. names_by s c) (all_seen f h) ∙ ap (λ x. names_by (maps.get f.subrs) (unwrap_or x [])) (sym e)

-- a name without a glyph has no components
pub no_components : (f : FontValue) (n : List ℕ) → maps.get f.glyphs n ≡ None → [] ≡ components profile f.subrs (charstring f n)
unfolding profile
no_components f n e = ap (λ x. names_by (maps.get f.subrs) (unwrap_or x [])) (sym e)

-- ---- indices

-- the indices that the glyph of a name executes
abbrev pub calls_by : FontValue → List ℕ → Numbers
calls_by f n = profile.exec f.subrs (charstring f n)

-- the indices that the glyphs of some names execute
abbrev pub calls_of : FontValue → List (List ℕ) → List ℕ
calls_of f ns = flat_map (λ n. sets.items (calls_by f n)) ns

-- what a glyph executes by the calls of code is what it executes by the definition
pub calls_are : (f : FontValue) → IsFont f → (n c : List ℕ) → maps.get f.glyphs n ≡ Some c → set_of (exec (subr_at f) c) ≡ calls_by f n
unfolding profile
calls_are f h n c e = ap (λ s. set_of (exec s c)) (all_seen f h) ∙ ap (λ x. set_of (exec (maps.get f.subrs) (unwrap_or x []))) (sym e)

-- a name without a glyph executes nothing
pub no_calls : (f : FontValue) (n : List ℕ) → maps.get f.glyphs n ≡ None → set_of [] ≡ calls_by f n
unfolding profile
no_calls f n e = ap (λ x. set_of (exec (maps.get f.subrs) (unwrap_or x []))) (sym e)
