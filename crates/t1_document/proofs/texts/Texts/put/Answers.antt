use Rattle.std.{proofs.{Common.{◌≡◌, Bool, true, false, cond, ℕ, List, Option, Some, Bor, refl, ap, ◌∙◌}, lemmas.Map.Text.{btree_map_updates_str}}, specs.{Option.{option_map}, Str.{bytes_eq}}}
use Rattle.t1_document.proofs.texts.Texts.put.Goals as goal

-- what a look-up lends, behind a look-up of one text more
lent_more : (b : Bool) (v : Bor (List ℕ)) (o : Option (Bor (List ℕ))) →
    option_map (λ (t : Bor (List ℕ)). t.now) (cond b (Some v) o) ≡ cond b (Some v.now) (option_map (λ (t : Bor (List ℕ)). t.now) o)
lent_more true v o = refl
lent_more false v o = refl

pub returns-clause-put : goal.returns-clause-put
returns-clause-put c = λ other.
    ap (option_map (λ (t : Bor (List ℕ)). t.now))
    (btree_map_updates_str c.args.name.now c.args.self.now.texts c.insert.new.self (Some c.args.text) c.in_ok-insert.ensures.updates other)
    ∙ lent_more (bytes_eq c.args.name.now other) c.args.text _
