-- Pages, as pieces of the joined document.
use Rattle.std.proofs.Common.{◌≡◌, ◌⊎◌, ℕ, ◌+◌, Bool, true, false, cond, List, [], ◌∷◌, ◌++◌, length, take, drop, None, refl, sym, ap, subst, ◌∙◌, one-add}
use Rattle.std.proofs.lemmas.Bool.{and_parts}
use Rattle.std.specs.{Prelude.{◌&&◌, ◌||◌, not, codes}, List.{list_all}}
use Rattle.t1_document.specs.{declared.marks.Open.{Open}, Lines.{lf_comes}, Marks.{begins_with, mark_of}, Documents.{none_open}, Pooling.{own_start}}
use Rattle.t1_dsc.specs.{declared.lines.Role.{Role}, declared.lines.Role.TheVariants.{Text, Page, SetupEnd}, Structure.{Line, same_role, open_with, open_past}}
use Rattle.t1_dsc.specs.Parts.{PageLines, len_before, before, has, pages_in, is_page_comment, comments_len, setup_len}
use Rattle.t1_dsc.specs.{Joining.{Frame, name_of, quiet, page_line, page_front, behind_comments, with_setup, page_inner, page_bytes, pages_bytes}, Laws.{pages_structure}}
use Rattle.t1_dsc.proofs.Words.{word_first, neither_mark}
use Rattle.t1_document.proofs.LineLemmas.{breaks-nil}
use Rattle.t1_dsc.proofs.{Wholes.{all_first}, Pieces.{Piece, no_piece, full_then, then_other, Full, lf_full, full_behind}, QuietLines.{role_plain}}
use Rattle.t1_dsc.proofs.Chains.{IsLink, Chain, chain_parts, first_is, cut_clear, not_text, clear_is, structure_clear, quiet_piece}
use Rattle.t1_dsc.proofs.{OwnLines.{setup_begins, setup_ends, between_lines}, OwnPieces.{page_full, page_line_piece, name_piece, name_full}}

-- ---- comments on a page open nothing

no_mark_behind : (w : List ℕ) → ((rest : List ℕ) → mark_of (w ++ rest) ≡ None) → (t : List ℕ) → begins_with w t ≡ true → mark_of t ≡ None
no_mark_behind w none t h = let x = word_first w t h in ap mark_of x.1 ∙ none x.0

comment_none : (t : List ℕ) → is_page_comment t ≡ true → mark_of t ≡ None
comment_none t h = by_parts (begins_with (codes "%%Page") t) (begins_with (codes "%%PageTrailer") t) (begins_with (codes "%%+") t) refl refl h
  where
    by_parts : (a b c : Bool) → begins_with (codes "%%Page") t ≡ a → begins_with (codes "%%+") t ≡ c → ((a && not b) || c) ≡ true → mark_of t ≡ None
    by_parts true b c e f k = no_mark_behind (codes "%%Page") (λ rest. neither_mark (codes "%%Page" ++ rest) refl refl) t e
    by_parts false b true e f k = no_mark_behind (codes "%%+") (λ rest. neither_mark (codes "%%+" ++ rest) refl refl) t f
    by_parts false b false e f k = absurd cc

comments_keep : (o : Open) (ls : List Line) (q : Open) → Chain o ls q → list_all (λ l. is_page_comment l.text) ls ≡ true → q ≡ o
comments_keep o [] q c h = sym c
comments_keep o (l ∷ ls) q c h =
    let parts = and_parts (is_page_comment l.text) (list_all (λ k. is_page_comment k.text) ls) h in
    let same : open_past o l.text ≡ o = ap (open_with o) (comment_none l.text parts.0) in
    comments_keep (open_past o l.text) ls q c.1 parts.1 ∙ same

-- ---- where a line of a role comes, nothing is open

pub has_cut : (role : Role) → same_role Text role ≡ false → (ls : List Line) → has role ls ≡ true → (q p : Open) →
    Chain q (drop (len_before role ls) ls) p → q ≡ none_open
has_cut role h [] e q p c = absurd cc
has_cut role h (l ∷ ls) e q p c = by_role (same_role role l.role) refl (has_cut role h ls)
  where
    by_role : (b : Bool) → same_role role l.role ≡ b → (has role ls ≡ true → (r s : Open) → Chain r (drop (len_before role ls) ls) s → r ≡ none_open) →
        q ≡ none_open
    by_role true k later =
        let first : Chain q (l ∷ ls) p = subst (λ (n : ℕ). Chain q (drop n (l ∷ ls)) p) (ap (λ (b : Bool). cond (not b) (1 + len_before role ls) 0) k) c in
        clear_is q (structure_clear q l.text (ap (same_role Text) (sym first.0.its_role) ∙ not_text role l.role h k)).0
    by_role false k later =
        let rest : Chain q (drop (len_before role ls) ls) p =
        subst (λ (n : ℕ). Chain q (drop n (l ∷ ls)) p) (ap (λ (b : Bool). cond (not b) (1 + len_before role ls) 0) k ∙ one-add (len_before role ls)) c in
        later (ap (λ (b : Bool). b || has role ls) (sym k) ∙ e) q p rest

-- ---- starts

pub lf-append : (a b : List ℕ) → lf_comes a ≡ false → lf_comes b ≡ false → lf_comes (a ++ b) ≡ false
lf-append [] b h k = k
lf-append (x ∷ a) b h k = h

-- ---- a page's own lines

-- a page whose lines are a chain behind its own line, which opens nothing; at its end nothing is open, or what is open at the end of all
pub record GoodPage (q : Open) (p : PageLines) : Type 0 where
  pub own : Piece none_open (quiet p.own) none_open []
  pub own_starts : lf_comes (quiet p.own) ≡ false
  pub last : Open
  pub body : Chain none_open p.body last
  pub ends : (last ≡ none_open) ⊎ (last ≡ q)

with_setup_piece : (ls : List Line) (r : Open) → Chain none_open ls r → Piece none_open (with_setup ls) r (codes "%%EndPageSetup\n" ∷ [])
with_setup_piece ls r c = made (chain_parts none_open ls r (setup_len ls) c)
  where
    cut_none : (q : Open) → Chain none_open (take (setup_len ls) ls) q → Chain q (drop (setup_len ls) ls) r → q ≡ none_open
    cut_none q front back = by_has (has SetupEnd ls) refl
      where
        by_has : (b : Bool) → has SetupEnd ls ≡ b → q ≡ none_open
        by_has true e =
            has_cut SetupEnd refl ls e q r
            (subst (λ (n : ℕ). Chain q (drop n ls) r) (ap (λ (b : Bool). cond b (len_before SetupEnd ls) 0) e) back)
        by_has false e = sym (subst (λ (n : ℕ). Chain none_open (take n ls) q) (ap (λ (b : Bool). cond b (len_before SetupEnd ls) 0) e) front)

    made : (x : (q : Open) × Chain none_open (take (setup_len ls) ls) q × Chain q (drop (setup_len ls) ls) r) →
        Piece none_open (with_setup ls) r (codes "%%EndPageSetup\n" ∷ [])
    made (q, front, back) =
        let is = cut_none q front back in
        let a = take (setup_len ls) ls in
        let b = drop (setup_len ls) ls in
        full_then none_open none_open r (quiet a ++ codes "%%EndPageSetup\n") (quiet b) (codes "%%EndPageSetup\n" ∷ []) []
        (full_behind (quiet a) 37 (codes "%EndPageSetup\n") (lf_full (codes "%%EndPageSetup")))
        (then_other none_open none_open none_open (quiet a) (codes "%%EndPageSetup\n") [] (codes "%%EndPageSetup\n" ∷ []) refl
        (subst (λ (o : Open). Piece none_open (quiet a) o []) is (quiet_piece none_open a q front)) setup_ends)
        (subst (λ (o : Open). Piece o (quiet b) r []) is (quiet_piece q b r back))

-- ---- a page

front_piece : (k n : ℕ) (body : List Line) (q : Open) → Chain none_open (take (comments_len body) body) q →
    Piece none_open (page_front (own_start k) n body) none_open (page_line n ∷ codes "%%BeginPageSetup\n" ∷ [])
unfolding page_front
front_piece k n body q c =
    let a = take (comments_len body) body in
    let is : q ≡ none_open = comments_keep none_open a q c (all_first (λ l. is_page_comment l.text) body) in
    then_other none_open none_open none_open (page_line n ++ quiet a ++ codes "%%BeginPageSetup\n") (name_of (own_start k) (codes "begin\n"))
    (page_line n ∷ codes "%%BeginPageSetup\n" ∷ []) [] refl
    (then_other none_open none_open none_open (page_line n ++ quiet a) (codes "%%BeginPageSetup\n") (page_line n ∷ []) (codes "%%BeginPageSetup\n" ∷ []) refl
    (full_then none_open none_open none_open (page_line n) (quiet a) (page_line n ∷ []) [] (page_full n) (page_line_piece n)
    (subst (λ (o : Open). Piece none_open (quiet a) o []) is (quiet_piece none_open a q c))) setup_begins)
    (name_piece k (codes "begin") refl)

front_full : (k n : ℕ) (body : List Line) → Full (page_front (own_start k) n body)
unfolding page_front
front_full k n body =
    full_behind (page_line n ++ quiet (take (comments_len body) body) ++ codes "%%BeginPageSetup\n") 112 (drop 1 (name_of (own_start k) (codes "begin\n")))
    (name_full k (codes "begin"))

inner_piece : (head : List ℕ) (p : PageLines) (q r : Open) → Piece none_open head none_open [] → GoodPage q p → Chain none_open (behind_comments p.body) r →
    Piece none_open (page_inner head p) r (codes "%%EndPageSetup\n" ∷ [])
unfolding page_inner
inner_piece head p q r h g c =
    full_then none_open none_open r (head ++ quiet p.own ++ codes "%\n") (with_setup (behind_comments p.body)) [] (codes "%%EndPageSetup\n" ∷ [])
    (full_behind (head ++ quiet p.own) 37 (10 ∷ []) (lf_full (codes "%")))
    (then_other none_open none_open none_open (head ++ quiet p.own) (codes "%\n") [] [] refl
    (then_other none_open none_open none_open head (quiet p.own) [] [] g.own_starts h g.own) between_lines)
    (with_setup_piece (behind_comments p.body) r c)

-- what all pages of a document have: a head that is closed, and a tail that closes what a page leaves open
pub record GoodFrame (q : Open) (f : Frame) : Type 0 where
  pub head : Piece none_open f.head none_open []
  pub tail : (r : Open) → (r ≡ none_open) ⊎ (r ≡ q) → Piece r f.tail none_open []
  pub tail_starts : lf_comes f.tail ≡ false

abbrev pub page_lines_of : ℕ → List (List ℕ)
page_lines_of n = page_line n ∷ codes "%%BeginPageSetup\n" ∷ codes "%%EndPageSetup\n" ∷ []

pub page_piece : (k n : ℕ) (f : Frame) (p : PageLines) (q : Open) → GoodFrame q f → GoodPage q p →
    Piece none_open (page_bytes (own_start k) f n p) none_open (page_lines_of n)
unfolding page_bytes
page_piece k n f p q g page = made (chain_parts none_open p.body page.last (comments_len p.body) page.body)
  where
    made : (x : (o : Open) × Chain none_open (take (comments_len p.body) p.body) o × Chain o (drop (comments_len p.body) p.body) page.last) →
        Piece none_open (page_front (own_start k) n p.body ++ page_inner f.head p ++ (f.tail ++ name_of (own_start k) (codes "end\n"))) none_open
        (page_lines_of n)
    made (o, front, back) =
        let is : o ≡ none_open = comments_keep none_open (take (comments_len p.body) p.body) o front (all_first (λ l. is_page_comment l.text) p.body) in
        let rest : Chain none_open (behind_comments p.body) page.last =
        subst (λ (s : Open). Chain s (drop (comments_len p.body) p.body) page.last) is back in
        then_other none_open page.last none_open (page_front (own_start k) n p.body ++ page_inner f.head p)
        (f.tail ++ name_of (own_start k) (codes "end\n")) (page_lines_of n) [] (lf-append f.tail (name_of (own_start k) (codes "end\n")) g.tail_starts refl)
        (full_then none_open none_open page.last (page_front (own_start k) n p.body) (page_inner f.head p)
        (page_line n ∷ codes "%%BeginPageSetup\n" ∷ []) (codes "%%EndPageSetup\n" ∷ []) (front_full k n p.body) (front_piece k n p.body o front)
        (inner_piece f.head p q page.last g.head page rest))
        (then_other page.last none_open none_open f.tail (name_of (own_start k) (codes "end\n")) [] [] refl (g.tail page.last page.ends)
        (name_piece k (codes "end") refl))

-- ---- pages

pub pages_start : (start : List ℕ) (f : Frame) (n : ℕ) (ps : List PageLines) → lf_comes (pages_bytes start f n ps) ≡ false
unfolding page_bytes page_front
pages_start start f n [] = refl
pages_start start f n (p ∷ ps) = refl

abbrev pub GoodPages : Open → List PageLines → Type 0
GoodPages q [] = Unit {0}
GoodPages q (p ∷ ps) = GoodPage q p × GoodPages q ps

pub pages_piece : (k n : ℕ) (f : Frame) (ps : List PageLines) (q : Open) → GoodFrame q f → GoodPages q ps →
    Piece none_open (pages_bytes (own_start k) f n ps) none_open (pages_structure n (length ps))
pages_piece k n f [] q g all = no_piece none_open
pages_piece k n f (p ∷ ps) q g all =
    then_other none_open none_open none_open (page_bytes (own_start k) f n p) (pages_bytes (own_start k) f (n + 1) ps) (page_lines_of n)
    (pages_structure (n + 1) (length ps)) (pages_start (own_start k) f (n + 1) ps) (page_piece k n f p q g all.0) (pages_piece k (n + 1) f ps q g all.1)

-- ---- the pages of a document

own_page : (l : Line) (ls : List Line) (o p : Open) → same_role Page l.role ≡ true → Chain o (l ∷ ls) p →
    (o ≡ none_open) × (Piece none_open (quiet (l ∷ [])) none_open []) × (lf_comes (quiet (l ∷ [])) ≡ false) × Chain none_open ls p
own_page l ls o p h c =
    let not : same_role Text l.role ≡ false = not_text Page l.role refl h in
    let clear = structure_clear o l.text (ap (same_role Text) (sym c.0.its_role) ∙ not) in
    let is : o ≡ none_open = clear_is o clear.0 in
    let plain = role_plain l.text clear.1 in
    let same : open_past o l.text ≡ none_open = ap (open_with o) plain.mark ∙ is in
    let link : IsLink none_open l [] = subst (λ (r : Open). IsLink r l []) is
    (record { one = c.0.one; its_role = c.0.its_role; ends = breaks-nil l.text; ended = c.0.ended }) in (
      is,
      quiet_piece none_open (l ∷ []) none_open (link, ap (open_with none_open) plain.mark),
      rw not refl,
      subst (λ (r : Open). Chain r ls p) same c.1,
    )

pub good_pages : (ls : List Line) (o q : Open) → Chain o ls q → GoodPages q (pages_in ls)
good_pages [] o q c = tt
good_pages (l ∷ ls) o q c = by_role (same_role Page l.role) refl (good_pages ls (open_past o l.text) q c.1)
  where
    good : same_role Page l.role ≡ true → (x : (r : Open) × Chain none_open (before Page ls) r × Chain r (drop (len_before Page ls) ls) q) →
        GoodPage q (record { own = l ∷ []; body = before Page ls })
    good h (r, front, back) =
        let own = own_page l ls o q h c in
        record {
          own = own.1;
          own_starts = own.2;
          last = r;
          body = front;
          ends = cut_clear Page refl r (drop (len_before Page ls) ls) q (first_is Page ls) back;
        }

    by_role : (b : Bool) → same_role Page l.role ≡ b → GoodPages q (pages_in ls) → GoodPages q (pages_in (l ∷ ls))
    by_role true h later = rw h (good h (chain_parts none_open ls q (len_before Page ls) (own_page l ls o q h c).3), later)
    by_role false h later = rw h later
