-- What becomes of one line, and of a page.
use Rattle.std.proofs.{Common.{◌≡◌, ℕ, Bool, cond, List, ◌++◌, take, drop, refl, ap, ◌∙◌, append_assoc}, lemmas.List.{take-append-drop}}
use Rattle.std.specs.Prelude.{codes}
use Rattle.t1_dsc.specs.{declared.lines.Role.TheVariants.{Text}, Structure.{Line, role_of}, Parts.{PageLines, comments_len, setup_len}}
use Rattle.t1_dsc.specs.Joining.{Frame, quiet, name_of, page_line, behind_comments, page_front, page_inner, page_bytes}
use Rattle.t1_dsc.specs.Laws.{LinesStay, PagesHold}

pub lines_stay : LinesStay
lines_stay = record {
  text = λ l h. rw h refl;
  structure = λ l h. rw h refl;
  inside = λ o line e. ap (λ (b : Bool). cond b (role_of line) Text) e;
}

regroup : (a b c d h o m s e t l w : List ℕ) →
    (((a ++ b) ++ c) ++ d) ++ (((h ++ o) ++ m) ++ ((s ++ e) ++ t)) ++ (l ++ w)
    ≡ a ++ (b ++ (c ++ (d ++ (h ++ (o ++ (m ++ (s ++ (e ++ (t ++ (l ++ w))))))))))
regroup a b c d h o m s e t l w = simp append_assoc

bytes_hold : (start : List ℕ) (frame : Frame) (n : ℕ) (p : PageLines) →
    page_bytes start frame n p
    ≡ page_line n ++ (quiet (take (comments_len p.body) p.body) ++ (codes "%%BeginPageSetup\n" ++ (name_of start (codes "begin\n") ++ (frame.head
    ++ (quiet p.own ++ (codes "%\n" ++ (quiet (take (setup_len (behind_comments p.body)) (behind_comments p.body)) ++ (codes "%%EndPageSetup\n"
    ++ (quiet (drop (setup_len (behind_comments p.body)) (behind_comments p.body)) ++ (frame.tail ++ name_of start (codes "end\n")))))))))))
unfolding page_bytes page_front page_inner
bytes_hold start frame n p =
    regroup (page_line n) (quiet (take (comments_len p.body) p.body)) (codes "%%BeginPageSetup\n") (name_of start (codes "begin\n")) frame.head (quiet p.own)
    (codes "%\n") (quiet (take (setup_len (behind_comments p.body)) (behind_comments p.body))) (codes "%%EndPageSetup\n")
    (quiet (drop (setup_len (behind_comments p.body)) (behind_comments p.body))) frame.tail (name_of start (codes "end\n"))

pub pages_hold : PagesHold
pages_hold = record {
  bytes = bytes_hold;
  lines = λ p.
      ap (λ (ls : List Line). take (comments_len p.body) p.body ++ ls) (take-append-drop (setup_len (behind_comments p.body)) (behind_comments p.body))
      ∙ take-append-drop (comments_len p.body) p.body;
}
