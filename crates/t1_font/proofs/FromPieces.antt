-- The font of the pieces that were read, and why there is none.
use Rattle.std.{proofs.Common.{◌≡◌, ℕ, ◌≤◌, ◌<◌, Bool, true, false, Option, Some, None, Ok, Err, refl, sym, ap, subst, ◌∙◌, arith}, specs.{Ordering.{nat_cmp}, FinMap.{len}, Option.{option_map}}}
use Rattle.t1_font.specs.{declared.subrs.SubrsParts.{SubrsParts}, declared.private.PrivateParts.{PrivateParts}, declared.fault.ReadFault.TheVariants.{NoNotdef, Limit}}
use Rattle.t1_font.specs.{FontValue.{FontValue, name_cmp, FitsLimits, weight, declared_count, count_limit, weight_limit}, FontModel.{clamp}, Gathering.{Entries}}
use Rattle.t1_text.specs.Entries.{last_entries}
use Rattle.t1_font.specs.{Pieces.{ClearPieces, SubrsPieces, PrivatePieces}, ReadFont.{subrs_shell, shell_of, font_of, subr_entries, glyph_entries, is_within, font_from}}
use Rattle.t1_font.specs.Answers.{ShowsSubrs, ShowsPrivate, declared_in}
use Rattle.t1_font.proofs.ValueLaws.{within_of, within_again}

-- a font without `.notdef`
pub lacks_notdef : (c : ClearPieces) (p : PrivatePieces) (x : PrivateParts) (g : Entries) → ShowsPrivate x g p → x.glyphs.has_notdef ≡ false →
    (font_from c p).read ≡ Err NoNotdef
unfolding font_from
lacks_notdef c p x g shows none = rw (sym shows.glyphs.notdef ∙ none) refl

same_declared : (o : Option SubrsParts) (s : Option SubrsPieces) → ShowsSubrs o s → declared_in o ≡ declared_count (option_map subrs_shell s)
same_declared None None h = refl
same_declared None (Some s) h = absurd h
same_declared (Some x) None h = absurd h
same_declared (Some x) (Some s) h = h.declared

abbrev within : ClearPieces → PrivatePieces → Bool
within c p = is_within (shell_of c p) (last_entries nat_cmp (subr_entries p)) (last_entries name_cmp (glyph_entries p))

pub not_within : (c : ClearPieces) (p : PrivatePieces) → (FitsLimits (font_of c p) → ⊥) → within c p ≡ false
not_within c p h = by_test (within c p) refl
  where
    by_test : (b : Bool) → within c p ≡ b → b ≡ false
    by_test true e = absurd (h (within_of c p e))
    by_test false e = refl

over : (c : ClearPieces) (p : PrivatePieces) (x : PrivateParts) (g : Entries) → ShowsPrivate x g p → x.glyphs.has_notdef ≡ true →
    within c p ≡ false → (font_from c p).read ≡ Err Limit
unfolding font_from
over c p x g shows there no_room = rw (sym shows.glyphs.notdef ∙ there, no_room) refl

-- more Subrs are declared than a font may have
pub declared_over : (c : ClearPieces) (p : PrivatePieces) (x : PrivateParts) (g : Entries) → ShowsPrivate x g p → x.glyphs.has_notdef ≡ true →
    count_limit < declared_in x.subrs → (font_from c p).read ≡ Err Limit
declared_over c p x g shows there many =
    over c p x g shows there (not_within c p (λ w. omega (arith, same_declared x.subrs p.subrs shows.subrs, w.declared, many)))

-- more glyphs are there
pub glyphs_over : (c : ClearPieces) (p : PrivatePieces) (x : PrivateParts) (g : Entries) (f : FontValue) → ShowsPrivate x g p →
    x.glyphs.has_notdef ≡ true → f ≡ font_of c p → count_limit < len f.glyphs → (font_from c p).read ≡ Err Limit
glyphs_over c p x g f shows there same many =
    over c p x g shows there (not_within c p (λ w. omega (arith, ap (λ (v : FontValue). len v.glyphs) same, w.glyphs, many)))

-- a font over the weight limit is refused as Limit
pub weight_over : (c : ClearPieces) (p : PrivatePieces) (x : PrivateParts) (g : Entries) (f : FontValue) (n : ℕ) → ShowsPrivate x g p →
    x.glyphs.has_notdef ≡ true → f ≡ font_of c p → n ≡ clamp (weight f) → weight_limit < n → (font_from c p).read ≡ Err Limit
weight_over c p x g f n shows there same is heavy =
    over c p x g shows there (not_within c p (λ w. heavier (weight f) n (subst (λ (v : FontValue). weight v ≤ weight_limit) (sym same) w.weight) is heavy))
  where
    heavier : (m n : ℕ) → m ≤ weight_limit → n ≡ clamp m → weight_limit < n → ⊥
    heavier m n light e h = omega (arith, e, h, light)

-- a font within the limits
pub font_is : (c : ClearPieces) (p : PrivatePieces) (x : PrivateParts) (g : Entries) (f : FontValue) (n : ℕ) → ShowsPrivate x g p → x.glyphs.has_notdef ≡ true →
    declared_in x.subrs ≤ count_limit → len f.glyphs ≤ count_limit → f ≡ font_of c p → n ≡ clamp (weight f) → n ≤ weight_limit → (font_from c p).read ≡ Ok f
unfolding font_from
font_is c p x g f n shows there few_subrs few_glyphs same is light =
    let declared : declared_count (shell_of c p).subrs ≤ count_limit =
    subst (λ (k : ℕ). k ≤ count_limit) (same_declared x.subrs p.subrs shows.subrs) few_subrs in
    let glyphs : len (font_of c p).glyphs ≤ count_limit = subst (λ (v : FontValue). len v.glyphs ≤ count_limit) same few_glyphs in
    let weighs : weight (font_of c p) ≤ weight_limit = subst (λ (v : FontValue). weight v ≤ weight_limit) same (lighter (weight f) n is light) in
    let same_font : font_of c p ≡ f = sym same in
    let yes : within c p ≡ true = within_again c p (record { declared = declared; glyphs = glyphs; weight = weighs }) in
    rw (sym shows.glyphs.notdef ∙ there, yes) (λ i. Ok (same_font i))
  where
    lighter : (m n : ℕ) → n ≡ clamp m → n ≤ weight_limit → m ≤ weight_limit
    lighter m n e h = omega (arith, e, h)
