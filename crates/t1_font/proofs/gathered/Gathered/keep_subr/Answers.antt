use Rattle.std.{proofs.{Common.{◌≡◌, ◌∙◌, ◌≤◌, ap, arith, sym, subst, ◌+◌, ◌-◌, length, drop, map}, lemmas.Cmp.{nat_cmp_total}}, specs.{FinSet.{nat_cmp-IsAntisymmetric}, Ordering.{nat_cmp}}}
use Rattle.t1_bytes.specs.Cipher.{plain_of}
use Rattle.t1_font.specs.{Gathering.{Entries}, Ranges.{bytes_at, numbered_at, IsInside, AllInside}}
use Rattle.t1_text.specs.{Entries.{map_of}, Places.{ending, bytes_at_place}}
use Rattle.t1_font.proofs.Buffers.{Decrypted, pushed, with_one, all_longer, names_wider, entries_stay, names_stay, rest_stays, plain_at, plain_inside, goes_on, same_length}
use Rattle.t1_font.proofs.Lasts.{settled_map, settled_all}
use Rattle.std.specs.FinMap as fin
use Rattle.t1_font.proofs.gathered.Gathered.keep_subr.Goals as goal

now_long : (c : goal.After-self-3-1) → c.len-2.result ≡ length c.decrypt_in.new.buffer.items
now_long c = c.len-2.ensures ∙ c.decrypt_in.new.buffer.ok.0

decrypted_so : (c : goal.After-self-3-1) → Decrypted c.self.inside.buffer.items c.decrypt_in.new.buffer.items
    c.self.inside.at c.args.left c.args.len_iv c.args.body c.part_at-cipher.result c.behind_lead-plain.result
decrypted_so c = record {
  fits = c.self.invariant.at;
  room = subst (λ (g : Entries). c.args.body.len + c.args.body.behind ≤ length g.rest) (sym c.self.view_is) c.requires.body;
  lead = c.requires.lead;
  past = c.requires.left;
  start = c.part_at-cipher.ensures.start ∙ ap (λ n. n - (c.args.body.len + c.args.body.behind)) (c.len.ensures ∙ c.self.inside.buffer.ok.0);
  end = c.part_at-cipher.ensures.end ∙ ap (λ n. n - c.args.body.behind) (c.len.ensures ∙ c.self.inside.buffer.ok.0);
  is = c.decrypt_in.ensures;
  plain_start = c.behind_lead-plain.ensures.start;
  plain_end = c.behind_lead-plain.ensures.end;
}

pub invariant_of-self-2 : goal.invariant_of-self-2
invariant_of-self-2 c =
    let d = decrypted_so c in
    let was = c.self.inside.at in
    let now = c.len-2.result - c.args.left in
    let wider : was ≤ now = omega (arith, goes_on _ _ _ _ _ _ _ _ d, now_long c) in
    let one : IsInside now c.behind_lead-plain.result =
    subst (λ n. IsInside (n - c.args.left) c.behind_lead-plain.result) (sym (now_long c)) (plain_inside _ _ _ _ _ _ _ _ d) in
    let subrs = settled_all nat_cmp_total (λ e. IsInside was e.1) c.self.inside.subrs.items c.settle.new.entries.items
    c.in_ok-self-inside.ensures.settled c.self.invariant.subrs in
    record {
      short = omega (arith, same_length _ _ _ _ _ _ _ _ d, c.self.invariant.short);
      at = omega (arith, now_long c);
      subrs = with_one now c.settle.new.entries.items c.push.new.self.items _ c.in_ok-push.ensures.items
          (all_longer was now c.settle.new.entries.items wider subrs) one;
      names = names_wider was now c.self.inside.glyphs.items wider c.self.invariant.names;
      glyphs = all_longer was now c.self.inside.glyphs.items wider c.self.invariant.glyphs;
    }

pub returns : goal.returns
returns c =
    let d = decrypted_so c in
    let was = c.self.inside.buffer.items in
    let now = c.decrypt_in.new.buffer.items in
    let subrs = settled_all nat_cmp_total (λ e. IsInside c.self.inside.at e.1) c.self.inside.subrs.items c.settle.new.entries.items
    c.in_ok-self-inside.ensures.settled c.self.invariant.subrs in
    let settled = settled_map (λ k. k) (bytes_at was) nat_cmp nat_cmp_total nat_cmp-IsAntisymmetric
    c.self.inside.subrs.items c.settle.new.entries.items c.in_ok-self-inside.ensures.settled in
    let together =
    ap (λ es. map_of {R = nat_cmp} (map (numbered_at now) es)) c.in_ok-push.ensures.items
    ∙ (pushed (numbered_at now) nat_cmp_total nat_cmp-IsAntisymmetric c.settle.new.entries.items (c.args.index, _)
    ∙ (λ i. fin.insert (map_of {R = nat_cmp} (entries_stay _ _ _ _ _ _ _ _ d (λ k. k) c.settle.new.entries.items subrs i)) c.args.index
    (plain_at _ _ _ _ _ _ _ _ d i))
    ∙ ap (λ m. fin.insert m c.args.index (plain_of c.args.len_iv (bytes_at_place (drop c.self.inside.at was) c.args.body))) settled) in
    (λ i. record {
      rest = (ap (λ n. drop (n - c.args.left) now) (now_long c) ∙ rest_stays _ _ _ _ _ _ _ _ d) i;
      codes = c.self.inside.codes;
      subrs = together i;
      glyphs = map_of (names_stay _ _ _ _ _ _ _ _ d c.self.inside.glyphs.items c.self.invariant.names c.self.invariant.glyphs i);
    })
    ∙ ap (λ (g : Entries). record {
      rest = ending c.args.left g.rest;
      codes = g.codes;
      subrs = fin.insert g.subrs c.args.index (plain_of c.args.len_iv (bytes_at_place g.rest c.args.body));
      glyphs = g.glyphs;
    }) c.self.view_is

pub invariant_of-self-in_err-push : goal.invariant_of-self-in_err-push
invariant_of-self-in_err-push c = record {
  short = c.self.invariant.short;
  at = c.self.invariant.at;
  subrs = subst (AllInside c.self.inside.at) (sym c.in_err-push.ensures.items) (settled_all nat_cmp_total
      (λ e. IsInside c.self.inside.at e.1) c.self.inside.subrs.items c.settle.new.entries.items
      c.in_ok-self-inside.ensures.settled c.self.invariant.subrs);
  names = c.self.invariant.names;
  glyphs = c.self.invariant.glyphs;
}
