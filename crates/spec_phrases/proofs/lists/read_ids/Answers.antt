use Rattle.std.proofs.Common.{◌≡◌, ℕ, List, refl, arith}
use Rattle.sml_grammar.specs.Answer.{bad}
use Rattle.phrase_base.specs.declared.stop.Stop.TheVariants as stop
use Rattle.sml_tree.specs.ReadTree.{Placed}
use Rattle.module_tree.specs.ModuleBare.{id_at}
use Rattle.module_grammar.specs.Signatures.{sig_id_turn}
use Rattle.module_code.specs.TreeOf.{id_at_of}
use Rattle.spec_phrases.specs.ListsRead.{read_id, read_ids, id_follows}
use Rattle.spec_phrases.proofs.Turns.{id-less, id-parts, id-is}
use Rattle.phrase_base.specs.Left.{left}
use Rattle.phrase_base.proofs.Lists.{list-start, list-fail, list-more, list-last}
use Rattle.spec_phrases.proofs.lists.read_ids.Goals as goal

abbrev dep : Placed ℕ → ℕ
dep x = 0

abbrev deps : List (Placed ℕ) → ℕ
deps xs = 0

pub ids-init : goal.ids-init
ids-init c = record {
  going = list-start (sig_id_turn) id_at_of (id_at c.args.source.now.file) deps 0 (left c.args.source.now c.args.tokens.now) c.new-ids.result.items c.new-ids.ensures.items;
  short = omega arith;
}

pub returns-in_default : goal.returns-in_default
returns-in_default c =
    let e : read_id (left c.args.source.now c.ids.rest.now) ≡ bad = let n = c.in_default.ensures in rw n refl in
    record {
      gives = list-fail (sig_id_turn) (read_id) (id_follows) (id-less) (id-parts) id_at_of (id_at c.args.source.now.file) dep deps (λ v vs. refl) refl c.args.source.now 0
          (left c.args.source.now c.ids.rest.now) c.ids.ids.items 0 (read_ids (left c.args.source.now c.args.tokens.now)) (stop.Bad 0) e c.ids.invariant.going;
    }

pub returns-in_default-before_id : goal.returns-in_default-before_id
returns-in_default-before_id c =
    let r = id-is c.args.source.now (left c.args.source.now c.ids.rest.now) c.in-Some.found.0 c.in-Some.found.1.now c.in-Some.ensures c.place_at.result c.place_at.ensures in
    let h = list-last (sig_id_turn) (read_id) (id_follows) (id-less) (id-parts) id_at_of (id_at c.args.source.now.file) dep deps (λ v vs. refl) refl c.args.source.now 0
    (left c.args.source.now c.ids.rest.now) c.ids.ids.items 0 (read_ids (left c.args.source.now c.args.tokens.now))
    c.push.new.self.items 0 (record { place = c.place_at.result; id = c.in-Some.found.0 }) 0 c.in-Some.found.1.now r.got r.is r.same c.in_ok-push.ensures.items refl c.ids.invariant.going
    (left c.args.source.now c.args.tokens.now) c.in_default-before_id.ensures c.ids.invariant.short in
    record { gives = record { got = h.got; is = h.is; same = h.same } }

pub ids-preserved : goal.ids-preserved
ids-preserved c =
    let r = id-is c.args.source.now (left c.args.source.now c.ids.rest.now) c.in-Some.found.0 c.in-Some.found.1.now c.in-Some.ensures c.place_at.result c.place_at.ensures in
    let h = list-more (sig_id_turn) (read_id) (id_follows) (id-less) (id-parts) id_at_of (id_at c.args.source.now.file) dep deps (λ v vs. refl) refl c.args.source.now 0
    (left c.args.source.now c.ids.rest.now) c.ids.ids.items 0 (read_ids (left c.args.source.now c.args.tokens.now))
    c.push.new.self.items 0 (record { place = c.place_at.result; id = c.in-Some.found.0 }) 0 c.in-Some.found.1.now r.got r.is r.same c.in_ok-push.ensures.items refl c.ids.invariant.going
    c.in-Some-before_id.ensures in
    let a = h.short in let b = c.ids.invariant.short in
    record { going = h.going; short = omega arith }
