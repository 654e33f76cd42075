-- Heads with tests whether their fonts were loaded before, and what is left of them.
use Rattle.std.{proofs.Common.{◌≡◌, refl}, specs.Prelude.{ℕ, List, [], ◌∷◌, ◌++◌, codes}}
use Rattle.t1_grammar.specs.Grammar.{first_at}
use Rattle.t1_bytes.specs.{White.{gap}, Eexec.{eexec_marker}}
use Rattle.t1_text.specs.{Words.{keyword, decimal, name, next_name}, Markers.{encoding_marker}}
use Rattle.t1_text.specs.FontTest.{if_known, ask_number, get_number, is_same, then_save, token, test_tokens, literal, known_name, if_numbered, known_number}
use Rattle.t1_text.specs.FontTest.{font_test, apart_test, eexec_there, untested}

-- tokens, each before this text
abbrev spread : List ℕ → List (List ℕ) → List ℕ
spread s [] = []
spread s (t ∷ ts) = t ++ (s ++ spread s ts)

-- the test, with this name and that one
abbrev test_of : List ℕ → List ℕ → List ℕ
test_of name again =
    codes "FontDirectory/" ++ (name ++ (codes " known{/" ++ (again ++ (codes " findfont dup/UniqueID known{dup\n/UniqueID get 5000793 eq exch/FontType "
    ++ codes "get 1 eq and}{pop false}ifelse\n{save true}{false}ifelse}{false}ifelse"))))

-- a test without white space that isn't needed, with this number and this word behind `pop`
abbrev tight_test : List ℕ → List ℕ → List ℕ
tight_test number answer =
    codes "FontDirectory/X known{/X findfont dup/UniqueID known{dup/UniqueID get " ++ (number ++ (codes " eq exch/FontType get 1 eq and}{pop "
    ++ (answer ++ codes "}ifelse{save true}{false}ifelse}{false}ifelse")))

-- one with this word where the number is got
abbrev long_test : List ℕ → List ℕ
long_test get =
    codes "FontDirectory/X known{/X findfont dup/UniqueID known{dup/UniqueID " ++ (get ++ (codes " 1 eq exch/FontType get 1 eq and}{pop "
    ++ codes "false}ifelse{save true}{false}ifelse}{false}ifelse"))

-- one with these words between `known` and the brace behind it
abbrev answered_test : List ℕ → List ℕ
answered_test words =
    codes "FontDirectory/X known{/X findfont dup/UniqueID known" ++ (words ++ (codes "{dup\n/UniqueID get 0 eq exch/FontType "
    ++ codes "get 1 eq and}{pop false}ifelse\n{save true}{false}ifelse}{false}ifelse"))

-- one with `pop false` behind the first `known`
abbrev named_test : List ℕ
named_test =
    codes "FontDirectory/X known pop false{/X findfont dup/UniqueID known{dup/UniqueID get 0 eq exch/FontType "
    ++ codes "get 1 eq and}{pop false}ifelse\n{save true}{false}ifelse}{false}ifelse"

-- the test of CMR10
abbrev test : List ℕ
test = test_of (codes "CMR10") (codes "CMR10")

-- what stands around it stays
a_test : untested (codes "%!\n%Tiny\n" ++ (test ++ codes "\n11 dict begin\n")) ≡ codes "%!\n%Tiny\n\n11 dict begin\n"
unfolding first_at gap eexec_marker keyword decimal name next_name encoding_marker
    token test_tokens literal known_name if_numbered known_number font_test apart_test eexec_there
a_test = refl

at_start : untested (test ++ codes " x") ≡ codes " x"
unfolding first_at gap eexec_marker keyword decimal name next_name encoding_marker
    token test_tokens literal known_name if_numbered known_number font_test apart_test eexec_there
at_start = refl

alone : untested (test) ≡ []
unfolding first_at gap eexec_marker keyword decimal name next_name encoding_marker
    token test_tokens literal known_name if_numbered known_number font_test apart_test eexec_there
alone = refl

-- white space between all tokens
spread_out : untested (codes "a " ++ (spread (codes " \n") (codes "FontDirectory" ∷ codes "/X" ∷ if_known)
    ++ (spread (codes "\t") (codes "/X" ∷ (ask_number ++ (if_known ++ get_number)))
    ++ (spread (codes "\n\n") (codes "0" ∷ is_same) ++ (spread (codes "\r") then_save ++ codes "b"))))) ≡ codes "a \rb"
unfolding first_at gap eexec_marker keyword decimal name next_name encoding_marker
    token test_tokens literal known_name if_numbered known_number font_test apart_test eexec_there
spread_out = refl

-- none where a delimiter parts them
no_white : untested (codes "}" ++ (tight_test (codes "1") (codes "false") ++ codes "{")) ≡ codes "}{"
unfolding first_at gap eexec_marker keyword decimal name next_name encoding_marker
    token test_tokens literal known_name if_numbered known_number font_test apart_test eexec_there
no_white = refl

other_name : untested (codes "a " ++ test_of (codes "CMR10") (codes "CMR12")) ≡ codes "a " ++ test_of (codes "CMR10") (codes "CMR12")
unfolding first_at gap eexec_marker keyword decimal name next_name encoding_marker
    token test_tokens literal known_name if_numbered known_number font_test apart_test eexec_there
other_name = refl

longer_name : untested (codes "a " ++ test_of (codes "CMR1") (codes "CMR10")) ≡ codes "a " ++ test_of (codes "CMR1") (codes "CMR10")
unfolding first_at gap eexec_marker keyword decimal name next_name encoding_marker
    token test_tokens literal known_name if_numbered known_number font_test apart_test eexec_there
longer_name = refl

in_a_word : untested (codes "x" ++ test) ≡ codes "x" ++ test
unfolding first_at gap eexec_marker keyword decimal name next_name encoding_marker
    token test_tokens literal known_name if_numbered known_number font_test apart_test eexec_there
in_a_word = refl

-- the first that a word begins with is found
behind_another_word : untested (codes "x" ++ (test ++ (codes " a " ++ (test ++ codes " b")))) ≡ codes "x" ++ (test ++ codes " a  b")
unfolding first_at gap eexec_marker keyword decimal name next_name encoding_marker
    token test_tokens literal known_name if_numbered known_number font_test apart_test eexec_there
behind_another_word = refl

word_goes_on : untested (test ++ codes "s") ≡ test ++ codes "s"
unfolding first_at gap eexec_marker keyword decimal name next_name encoding_marker
    token test_tokens literal known_name if_numbered known_number font_test apart_test eexec_there
word_goes_on = refl

-- a head with two stays
two_tests : untested (codes "a " ++ (test ++ (codes " b " ++ (test ++ codes " c")))) ≡ codes "a " ++ (test ++ (codes " b " ++ (test ++ codes " c")))
unfolding first_at gap eexec_marker keyword decimal name next_name encoding_marker
    token test_tokens literal known_name if_numbered known_number font_test apart_test eexec_there
two_tests = refl

another_word : untested (tight_test (codes "1") (codes "true")) ≡ tight_test (codes "1") (codes "true")
unfolding first_at gap eexec_marker keyword decimal name next_name encoding_marker
    token test_tokens literal known_name if_numbered known_number font_test apart_test eexec_there
another_word = refl

no_number : untested (tight_test (codes "a") (codes "false")) ≡ tight_test (codes "a") (codes "false")
unfolding first_at gap eexec_marker keyword decimal name next_name encoding_marker
    token test_tokens literal known_name if_numbered known_number font_test apart_test eexec_there
no_number = refl

-- without this one the clear text would end there
a_marker : untested (codes "currentfile " ++ (test ++ codes " eexec ")) ≡ codes "currentfile " ++ (test ++ codes " eexec ")
unfolding first_at gap eexec_marker keyword decimal name next_name encoding_marker
    token test_tokens literal known_name if_numbered known_number font_test apart_test eexec_there
a_marker = refl

no_test : untested (codes "%!\n/FontDirectory def") ≡ codes "%!\n/FontDirectory def"
unfolding first_at gap eexec_marker keyword decimal name next_name encoding_marker
    token test_tokens literal known_name if_numbered known_number font_test apart_test eexec_there
no_test = refl

-- a literal is not the test
behind_slash : untested (codes "/" ++ test) ≡ codes "/" ++ test
unfolding first_at gap eexec_marker keyword decimal name next_name encoding_marker
    token test_tokens literal known_name if_numbered known_number font_test apart_test eexec_there
behind_slash = refl

-- the test behind such a literal is found
behind_a_literal : untested (codes "/" ++ (test ++ (codes " a " ++ (test ++ codes " b")))) ≡ codes "/" ++ (test ++ codes " a  b")
unfolding first_at gap eexec_marker keyword decimal name next_name encoding_marker
    token test_tokens literal known_name if_numbered known_number font_test apart_test eexec_there
behind_a_literal = refl

-- `gets` is another word than `get`
token_goes_on : untested (long_test (codes "gets")) ≡ long_test (codes "gets")
unfolding first_at gap eexec_marker keyword decimal name next_name encoding_marker
    token test_tokens literal known_name if_numbered known_number font_test apart_test eexec_there
token_goes_on = refl

token_ends : untested (long_test (codes "get")) ≡ []
unfolding first_at gap eexec_marker keyword decimal name next_name encoding_marker
    token test_tokens literal known_name if_numbered known_number font_test apart_test eexec_there
token_ends = refl

-- as cairo writes it
by_cairo : untested (codes "%!\n" ++ (answered_test (codes " pop false ") ++ codes "\n17 dict begin\n")) ≡ codes "%!\n\n17 dict begin\n"
unfolding first_at gap eexec_marker keyword decimal name next_name encoding_marker
    token test_tokens literal known_name if_numbered known_number font_test apart_test eexec_there
by_cairo = refl

-- the same words with white space between them, and without any before the brace
pop_false_spread : untested (answered_test (codes "\tpop \n false")) ≡ []
unfolding first_at gap eexec_marker keyword decimal name next_name encoding_marker
    token test_tokens literal known_name if_numbered known_number font_test apart_test eexec_there
pop_false_spread = refl

-- another answer
pop_true : untested (answered_test (codes " pop true ")) ≡ answered_test (codes " pop true ")
unfolding first_at gap eexec_marker keyword decimal name next_name encoding_marker
    token test_tokens literal known_name if_numbered known_number font_test apart_test eexec_there
pop_true = refl

-- none
pop_alone : untested (answered_test (codes " pop ")) ≡ answered_test (codes " pop ")
unfolding first_at gap eexec_marker keyword decimal name next_name encoding_marker
    token test_tokens literal known_name if_numbered known_number font_test apart_test eexec_there
pop_alone = refl

-- one that takes nothing away
false_alone : untested (answered_test (codes " false ")) ≡ answered_test (codes " false ")
unfolding first_at gap eexec_marker keyword decimal name next_name encoding_marker
    token test_tokens literal known_name if_numbered known_number font_test apart_test eexec_there
false_alone = refl

-- one whose word goes on
pop_falsely : untested (answered_test (codes " pop falsely ")) ≡ answered_test (codes " pop falsely ")
unfolding first_at gap eexec_marker keyword decimal name next_name encoding_marker
    token test_tokens literal known_name if_numbered known_number font_test apart_test eexec_there
pop_falsely = refl

-- the name is asked for with the same words
name_answered : untested named_test ≡ named_test
unfolding first_at gap eexec_marker keyword decimal name next_name encoding_marker
    token test_tokens literal known_name if_numbered known_number font_test apart_test eexec_there
name_answered = refl
