use Rattle.std.{proofs.Common.{◌≡◌, ℕ, Bool, true, false, not, List, refl, sym, ◌∙◌, ap}, specs.Cmp.Lexicographic.{same_text}}
use Rattle.t1_bytes.specs.declared.form.Form.TheVariants.{Pfb}
use Rattle.t1_font.{specs.{FontValue.{FontValue, Encoding, Word, Codes}, Cut.{restrict_encoding, restrict}, Encodings.{SameKind}}, proofs.canonical.RoundTrip.{one_canon}}
use Rattle.t1_font_cuts_tests.proofs.tests.cuts.is_one_shell.Goals as goal

-- Encodings whose cuts are one are the same word or two tables
same_kinds : (d e : Encoding) (p q : List ℕ → Bool) → restrict_encoding p d ≡ restrict_encoding q e → SameKind d e
same_kinds (Word v) (Word w) p q h = cc
same_kinds (Word v) (Codes n) p q h = cc
same_kinds (Codes m) (Word w) p q h = cc
same_kinds (Codes m) (Codes n) p q h = tt

-- cuts that have one file are one font
one_cut : (c : goal.After-drop-one-2) → c.eq.result ≡ true →
    restrict c.in_ok-one.ensures.0 c.in_ok-one.ensures.1.0 c.args.first.now ≡ restrict c.in_ok-other.ensures.0 c.in_ok-other.ensures.1.0 c.args.second.now
one_cut c is =
    let one = c.in_ok-one.ensures in
    let other = c.in_ok-other.ensures in
    let files : c.in_ok-one.one.items ≡ c.in_ok-other.other.items =
    sym c.as_slice.ensures.value ∙ (same_text c.as_slice.result.now c.as_slice-2.result.now (sym is ∙ c.eq.ensures) ∙ c.as_slice-2.ensures.value) in
    one_canon (restrict one.0 one.1.0 c.args.first.now)
    (restrict other.0 other.1.0 c.args.second.now) Pfb one.1.1.0 other.1.1.0 tt tt (sym one.1.1.1 ∙ (files ∙ other.1.1.1))

pub returns-clause-shells : goal.returns-clause-shells
returns-clause-shells c = λ is. ap (λ (f : FontValue). f.shell) (one_cut c is)

pub returns-clause-kinds : goal.returns-clause-kinds
returns-clause-kinds c = λ is. same_kinds c.args.first.now.encoding c.args.second.now.encoding c.in_ok-one.ensures.0 c.in_ok-other.ensures.0
    (ap (λ (f : FontValue). f.encoding) (one_cut c is))
