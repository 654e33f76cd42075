-- The answers of engines of one input.
use Rattle.std.{proofs.{Common.{◌≡◌, ℕ, List, [], ◌∷◌, ◌++◌, map, ◌∙◌, ap, refl, sym, append_assoc, Option, Result, Ok, Err}, lemmas.List.{append-nil}}, specs.List.{flat_map}}
use Rattle.t1_run.specs.{declared.answer.Mark.{Mark}, Pens.{drawn_on}}
use Rattle.t1_font.specs.FontValue.{FontValue}
use Rattle.t1_cmd.specs.{declared.counting.Counted.{Counted}, declared.faults.Reason.{Reason}, declared.faults.Reason.TheVariants.{Memory}, declared.faults.RunFault.{RunFault}}
use Rattle.t1_cmd.specs.{declared.faults.RunFault.TheVariants.{Refused}, Inputs.{Input, Holds}, Answers.{if_there, MayRefuse, Prints}, Runs.{Stops, RunEnds, Succeeds}, Fonts.{of_input}}
use Rattle.t1_cmd.specs.DrawingText.{mark_line, with_mark_line}
use Rattle.t1_cmd.proofs.{Refusals.{by_answer, says_so, input_stops}, RunLemmas.{Says, stops_after, stops_together, ends_succeeds}}

-- ---- files

-- a file that a command refuses stops its engine
pub command_stops : (input : List ℕ → Result FontValue Reason) (answer : FontValue → Result (List ℕ) Reason) (i : Input) (file : List ℕ) (r : Reason) →
    Holds i file → MayRefuse (λ a. a ≡ of_input input answer file) r → Stops input (Prints answer) (i ∷ []) (Refused r)
command_stops input answer i file r has =
    by_answer (λ a. a ≡ of_input input answer file) (λ s. Stops input (Prints answer) (i ∷ []) (Refused s)) r tt (λ s h. by s (input file) refl h)
  where
    by : (s : Reason) (o : Result FontValue Reason) → o ≡ input file → Err s ≡ if_there answer o → Stops input (Prints answer) (i ∷ []) (Refused s)
    by s (Ok f) is h = stops_together input (Prints answer) (i ∷ []) (f ∷ []) s (says_so input i file (Ok f) has is, tt) h
    by s (Err t) is h =
        let same : s ≡ t = cc in
        stops_after input (Prints answer) [] i [] (Refused s) tt
        (input_stops input i s (says_so input i file (Err s) has (ap {B = Result FontValue Reason} (λ (r : Reason). Err r) same ∙ is)))

-- the font of a file for which a command has a text
pub command_says : (input : List ℕ → Result FontValue Reason) (answer : FontValue → Result (List ℕ) Reason) (i : Input) (file text : List ℕ)
    → Holds i file → of_input input answer file ≡ Ok text
    → (f : FontValue) × Says input i f × (Ok text ≡ answer f)
command_says input answer i file text has h = by (input file) refl h
  where
    by : (o : Result FontValue Reason) → o ≡ input file → if_there answer o ≡ Ok text → (f : FontValue) × Says input i f × (Ok text ≡ answer f)
    by (Ok f) is k = (f, says_so input i file (Ok f) has is, sym k)
    by (Err r) is k = cc

-- ---- engines

-- what is printed is not refused
pub prints_apart : {A : Type 0} (answer : A → Result (List ℕ) Reason) (xs : List A) (text : List ℕ) (r : Reason) → Prints answer xs (Ok text)
    → Prints answer xs (Err r) → r ≡ Memory
prints_apart answer [] text r h k = absurd h
prints_apart answer (x ∷ []) text r h k = cc
prints_apart answer (x ∷ y ∷ ys) text r h k = absurd h

-- an engine over one font that ends so succeeds where it should
pub ends_well : (input : List ℕ → Result FontValue Reason) (text : FontValue → Result (List ℕ) Reason)
    {W : Type 0} (contents : W → Option (List ℕ)) (i : Input) (w v : Counted W) (result : Result (Unit {0}) RunFault)
    → RunEnds input (Prints text) contents (i ∷ []) w v result → Succeeds input (Prints text) (i ∷ []) w v result
ends_well input text contents i w v result h = ends_succeeds input (Prints text) (prints_apart text) contents (i ∷ []) w v result h

-- a text of four pieces, one after another
pub four_pieces : (start a b c d x x' y y' z z' w : List ℕ) → start ≡ [] → a ≡ start ++ (x ++ x') → b ≡ a ++ (y ++ y') → c ≡ b ++ (z ++ z')
    → d ≡ c ++ w → d ≡ x ++ x' ++ y ++ y' ++ z ++ z' ++ w
four_pieces start a b c d x x' y y' z z' w h k l m n =
    let all : d ≡ ((([] ++ (x ++ x')) ++ (y ++ y')) ++ (z ++ z')) ++ w = cc in
    all ∙ simp append_assoc

-- a text that grows by two pieces
pub two_more : (old mid new a b : List ℕ) → mid ≡ old ++ a → new ≡ mid ++ b → new ≡ old ++ (a ++ b)
two_more old mid new a b h k = k ∙ ap (λ (t : List ℕ). t ++ b) h ∙ append_assoc old a b

-- a text of three pieces
pub three_pieces : (start first second third a b c : List ℕ) → start ≡ [] → first ≡ start ++ a → second ≡ first ++ b → third ≡ second ++ c → third ≡ a ++ b ++ c
three_pieces start first second third a b c h k l m =
    let all : third ≡ (([] ++ a) ++ b) ++ c = cc in
    all

-- the lines of marks, one after another
pub lines_of_marks : (text : List ℕ) (marks : List Mark) → drawn_on with_mark_line text marks ≡ text ++ flat_map mark_line marks
lines_of_marks text [] = sym (append-nil text)
lines_of_marks text (m ∷ marks) = lines_of_marks (text ++ mark_line m) marks ∙ append_assoc text (mark_line m) (flat_map mark_line marks)

-- the lines of parts are those of what the parts stand for
pub flat_map_placed : {X Y : Type 0} (f : Y → List ℕ) (g : X → Y) (xs : List X) → flat_map (λ x. f (g x)) xs ≡ flat_map f (map g xs)
flat_map_placed f g [] = refl
flat_map_placed f g (x ∷ xs) = ap (λ (t : List ℕ). f (g x) ++ t) (flat_map_placed f g xs)
