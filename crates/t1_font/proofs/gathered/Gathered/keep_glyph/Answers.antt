use Rattle.std.{proofs.{Common.{ℕ, List, ◌≡◌, ◌∙◌, ◌≤◌, ap, arith, sym, subst, ◌+◌, ◌-◌, length, drop, map}, lemmas.Cmp.{nat_list_cmp_total}}, specs.Cmp.Lexicographic.{on_texts}}
use Rattle.t1_bytes.specs.Cipher.{plain_of}
use Rattle.t1_font.specs.{declared.ranges.Range.{Range}, FontValue.{name_cmp}, Gathering.{Entries, gathered_glyphs}}
use Rattle.t1_text.specs.{Entries.{map_of, AreSettled}, Places.{ending, bytes_at_place}}
use Rattle.t1_font.specs.Ranges.{bytes_at, by_name, named_at, IsInside, AllInside, NamesInside}
use Rattle.t1_font.proofs.Buffers.{Decrypted, CharStrings, pushed, with_one, names_with_one, all_longer, names_wider, entries_stay}
use Rattle.t1_font.proofs.Buffers.{names_stay, rest_stays, plain_at, plain_inside, name_at, name_inside}
use Rattle.t1_font.proofs.{Buffers.{goes_on, same_length}, Lasts.{settled_map, settled_all}, canonical.FontAgain.{name_same}}
use Rattle.std.specs.FinMap as fin
use Rattle.t1_font.proofs.gathered.Gathered.keep_glyph.Goals as goal

now_long : (c : goal.After-self-3-1) → c.len-3.result ≡ length c.decrypt_in.new.buffer.items
now_long c = c.len-3.ensures ∙ c.decrypt_in.new.buffer.ok.0

decrypted_so : (c : goal.After-self-3-1) → Decrypted c.self.inside.buffer.items c.decrypt_in.new.buffer.items
    c.self.inside.at c.args.left c.args.len_iv c.args.body c.part_at-cipher.result c.behind_lead-plain.result
decrypted_so c = record {
  fits = c.self.invariant.at;
  room = subst (λ (g : Entries). c.args.body.len + c.args.body.behind ≤ length g.rest) (sym c.self.view_is) (omega (arith, c.requires.name, c.requires.body));
  lead = c.requires.lead;
  past = c.requires.left;
  start = c.part_at-cipher.ensures.start ∙ ap (λ n. n - (c.args.body.len + c.args.body.behind)) (c.len-2.ensures ∙ c.self.inside.buffer.ok.0);
  end = c.part_at-cipher.ensures.end ∙ ap (λ n. n - c.args.body.behind) (c.len-2.ensures ∙ c.self.inside.buffer.ok.0);
  is = c.decrypt_in.ensures;
  plain_start = c.behind_lead-plain.ensures.start;
  plain_end = c.behind_lead-plain.ensures.end;
}

named_so : (c : goal.After-self-3-1) → CharStrings c.self.inside.buffer.items c.self.inside.at c.args.name c.args.body c.part_at-name.result
named_so c = record {
  room = subst (λ (g : Entries). c.args.name.len + c.args.name.behind ≤ length g.rest) (sym c.self.view_is) c.requires.name;
  order = c.requires.body;
  start = c.part_at-name.ensures.start ∙ ap (λ n. n - (c.args.name.len + c.args.name.behind)) (c.len.ensures ∙ c.self.inside.buffer.ok.0);
  end = c.part_at-name.ensures.end ∙ ap (λ n. n - c.args.name.behind) (c.len.ensures ∙ c.self.inside.buffer.ok.0);
}

settled_so : (c : goal.After-self-3-1) →
    gathered_glyphs c.self.inside.buffer.items c.settle.new.entries.items ≡ gathered_glyphs c.self.inside.buffer.items c.self.inside.glyphs.items
settled_so c =
    let was = c.self.inside.buffer.items in
    settled_map (bytes_at was) (bytes_at was) name_cmp nat_list_cmp_total name_same c.self.inside.glyphs.items c.settle.new.entries.items
    (subst (λ (b : List ℕ). AreSettled (by_name b) c.self.inside.glyphs.items c.settle.new.entries.items)
    c.as_slice.ensures.value c.in_ok-self-inside.ensures.settled)

-- names and charstrings stand where they stood
inside : (buffer : List ℕ) (at : ℕ) (old new : List (Range × Range)) → AreSettled (by_name buffer) old new →
    NamesInside at old → AllInside at old → NamesInside at new × AllInside at new
inside buffer at old new settled names bodies =
    let order = on_texts (bytes_at buffer) in
    (settled_all order (λ e. IsInside at e.0) old new settled names, settled_all order (λ e. IsInside at e.1) old new settled bodies)

pub invariant_of-self-2 : goal.invariant_of-self-2
invariant_of-self-2 c =
    let d = decrypted_so c in
    let was = c.self.inside.at in
    let now = c.len-3.result - c.args.left in
    let plain : Range = c.behind_lead-plain.result in
    let wider : was ≤ now = omega (arith, goes_on _ _ _ _ _ _ _ _ d, now_long c) in
    let one : IsInside now plain = subst (λ n. IsInside (n - c.args.left) plain) (sym (now_long c)) (plain_inside _ _ _ _ _ _ _ _ d) in
    let name : IsInside now c.part_at-name.result =
    subst (λ n. IsInside (n - c.args.left) c.part_at-name.result) (sym (now_long c)) (name_inside _ _ _ _ _ _ _ _ d _ _ (named_so c)) in
    let settled = inside c.as_slice.result.now was c.self.inside.glyphs.items c.settle.new.entries.items
    c.in_ok-self-inside.ensures.settled c.self.invariant.names c.self.invariant.glyphs in
    record {
      short = omega (arith, same_length _ _ _ _ _ _ _ _ d, c.self.invariant.short);
      at = omega (arith, now_long c);
      subrs = all_longer was now c.self.inside.subrs.items wider c.self.invariant.subrs;
      names = names_with_one now c.settle.new.entries.items c.push.new.self.items _ c.in_ok-push.ensures.items
          (names_wider was now c.settle.new.entries.items wider settled.0) name;
      glyphs = with_one now c.settle.new.entries.items c.push.new.self.items _ c.in_ok-push.ensures.items
          (all_longer was now c.settle.new.entries.items wider settled.1) one;
    }

pub returns : goal.returns
returns c =
    let d = decrypted_so c in
    let was = c.self.inside.buffer.items in
    let now = c.decrypt_in.new.buffer.items in
    let settled = inside c.as_slice.result.now c.self.inside.at c.self.inside.glyphs.items c.settle.new.entries.items
    c.in_ok-self-inside.ensures.settled c.self.invariant.names c.self.invariant.glyphs in
    let together =
    ap (λ es. map_of {R = name_cmp} (map (named_at now) es)) c.in_ok-push.ensures.items
    ∙ (pushed (named_at now) nat_list_cmp_total name_same c.settle.new.entries.items (c.part_at-name.result, _)
    ∙ ((λ i. fin.insert (map_of {R = name_cmp} (names_stay _ _ _ _ _ _ _ _ d c.settle.new.entries.items settled.0 settled.1 i))
    (name_at _ _ _ _ _ _ _ _ d _ _ (named_so c) i) (plain_at _ _ _ _ _ _ _ _ d i))
    ∙ ap (λ m. fin.insert m (bytes_at_place (drop c.self.inside.at was) c.args.name)
    (plain_of c.args.len_iv (bytes_at_place (drop c.self.inside.at was) c.args.body)))
    (settled_so c))) in
    (λ i. record {
      rest = (ap (λ n. drop (n - c.args.left) now) (now_long c) ∙ rest_stays _ _ _ _ _ _ _ _ d) i;
      codes = c.self.inside.codes;
      subrs = map_of (entries_stay _ _ _ _ _ _ _ _ d (λ k. k) c.self.inside.subrs.items c.self.invariant.subrs i);
      glyphs = together i;
    })
    ∙ ap (λ (g : Entries). record {
      rest = ending c.args.left g.rest;
      codes = g.codes;
      subrs = g.subrs;
      glyphs = fin.insert g.glyphs (bytes_at_place g.rest c.args.name) (plain_of c.args.len_iv (bytes_at_place g.rest c.args.body));
    }) c.self.view_is

pub invariant_of-self-in_err-push : goal.invariant_of-self-in_err-push
invariant_of-self-in_err-push c =
    let settled = inside c.as_slice.result.now c.self.inside.at c.self.inside.glyphs.items c.settle.new.entries.items
    c.in_ok-self-inside.ensures.settled c.self.invariant.names c.self.invariant.glyphs in
    record {
      short = c.self.invariant.short;
      at = c.self.invariant.at;
      subrs = c.self.invariant.subrs;
      names = subst (NamesInside c.self.inside.at) (sym c.in_err-push.ensures.items) settled.0;
      glyphs = subst (AllInside c.self.inside.at) (sym c.in_err-push.ensures.items) settled.1;
    }
