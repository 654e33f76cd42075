-- What the frames of a run stand for: a glyph and the Subrs that are being run (Adobe Type 1 Font Format 1.1, chapter 8).
use Rattle.std.specs.Prelude.{ℕ, zero, suc, List, [], ◌∷◌, length, map, reverse}
use Rattle.t1_char.specs.{declared.token.Token.{Token}, Tokens.{tokens}}
use Rattle.t1_run.specs.{declared.frames.Frame.{Frame}, declared.answer.Hints.{Hints}, State.{State, Back}, Run.{Subrs, Outcome, ends, deeper, resume, run}}

-- The tokens that a frame has left.
abbrev pub frame_left : Frame → List Token
frame_left f = tokens f.rest.now

-- The token lists that frames have left, the top first; of the frames the last is on top.
abbrev pub lists_of : List Frame → List (List Token)
lists_of frames = reverse (map frame_left frames)

-- An outcome whose tokens are executed so many calls deeper.
abbrev pub deeper_by : ℕ → Outcome → Outcome
deeper_by zero o = o
deeper_by (suc n) o = deeper_by n (deeper o)

-- A run of token lists, the top first, where the top may call so many levels deeper: that of the top, as many calls deep as lists are below it, and then, from
-- its Back, that of the lists below.
abbrev pub run_frames : Subrs → Hints → ℕ → List (List Token) → State → Outcome
run_frames subrs hints levels [] s = ends (Back s)
run_frames subrs hints levels (ts ∷ below) s =
    resume (deeper_by (length below) (run subrs hints levels ts s)) (run_frames subrs hints (suc levels) below)
