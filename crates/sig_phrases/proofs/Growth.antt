-- The loop over each `where type` after a signature.
use Rattle.std.proofs.Common.{◌≡◌, ℕ, ◌<◌, ◌≤◌, ◌+◌, List, [], ◌∷◌, length, map, max, Some, None, true, false, nat_le, refl, sym, ap, ◌∙◌, arith}
use Rattle.std.proofs.lemmas.Bool.{le-leb, lt-leb}
use Rattle.mlc_names.specs.declared.token.Token.{Token}
use Rattle.mlc_names.specs.declared.token.Reserved.TheVariants as res
use Rattle.sml_tree.specs.Terminal.{Terminal}
use Rattle.sml_tree.specs.Bare.{at, bare_long, bare_ty}
use Rattle.sml_tree.specs.TreeOf.{ty_of, long_id_of}
use Rattle.sml_grammar.specs.Answer.{Read, Answer, ok, deep, read, then_read, last, more, whole}
use Rattle.sml_grammar.specs.Terminals.{after_word}
use Rattle.module_tree.specs.BareModules as bare
use Rattle.module_tree.specs.ReadModules as tree
use Rattle.module_tree.specs.ModuleBare.{bare_sig, where_all}
use Rattle.module_tree.specs.ModuleDepth.{depth_sig}
use Rattle.module_code.specs.TreeOf.{sig_of, where_onto}
use Rattle.module_code.specs.declared.signatures.SigExp.{SigExp}
use Rattle.module_code.specs.declared.signatures.WhereType.{WhereType}
use Rattle.module_grammar.specs.Signatures.{where_suffix}
use Rattle.phrase_base.specs.declared.source.Source.{Source}
use Rattle.phrase_base.specs.declared.stop.Stop.{Stop}
use Rattle.phrase_base.specs.declared.stop.Stop.TheVariants as stop
use Rattle.phrase_base.specs.Gives.{Fails, Gave}
use Rattle.phrase_base.specs.Left.{left}
use Rattle.phrase_base.proofs.Loop.{fails-then, fails-by, fails-deep, Going, going-start, going-more, going-last, going-fails}
use Rattle.phrase_base.proofs.Shorter.{word-shorter}
use Rattle.spec_phrases.specs.ListsRead.{WhereOf, where_of, bare_where, read_wheres, IsWheres}
use Rattle.sig_phrases.specs.SigsRead.{IsSig}

-- a signature with these put on it
abbrev put_on : bare.SigExp → List WhereOf → bare.SigExp
put_on g [] = g
put_on g (w ∷ ws) = put_on (bare.where_type g w.place w.tyvars_place w.tyvars w.tycon w.ty) ws

onto-is : (ws : List WhereType) (g : bare.SigExp) → where_onto g ws ≡ put_on g (map where_of ws)
onto-is [] g = refl
onto-is (w ∷ ws) g = onto-is ws (bare.where_type g w.place w.tyvars_place w.tyvars.items (record { place = w.tycon_place; long = long_id_of w.tycon }) (ty_of w.ty))

all-is : (f : ℕ) (ws : List tree.WhereType) (g : bare.SigExp) → where_all f g ws ≡ put_on g (map (bare_where f) ws)
all-is f [] g = refl
all-is f (w ∷ ws) g = all-is f ws (bare.where_type g (at f w.place) (at f w.tyvars_place) w.tyvars (bare_long f w.tycon) (bare_ty f w.ty))

pub record Growing (s : Source) (n : ℕ) (i : List Terminal) (x : SigExp) (d : ℕ) (o : List Token) (total : Answer tree.SigExp) : Type 0 where
  pub it : Read tree.SigExp
  pub is : IsSig s (n + 1) i x d o it
  pub going : Going (where_suffix n) it.tree it.rest (λ b. b) total

pub grows-start : (s : Source) (n : ℕ) (i : List Terminal) (x : SigExp) (d : ℕ) (o : List Token) (a : Read tree.SigExp) → IsSig s (n + 1) i x d o a → Growing s n i x d o (whole (where_suffix n) a.tree a.rest)
grows-start s n i x d o a h = record { it = a; is = h; going = going-start (where_suffix n) a.tree a.rest }

module _ (s : Source) (n : ℕ) (i : List Terminal) (x : SigExp) (d : ℕ) (o : List Token) (total : Answer tree.SigExp) (g : Growing s n i x d o total) where
  pub grows-last : after_word res.Where (left s o) ≡ None → Gave (λ (y : SigExp) r. IsSig s (n + 1) i y d o r) x total
  grows-last h =
      let q : after_word res.Where g.it.rest ≡ None = ap (after_word res.Where) (sym g.is.rest) ∙ h in
      let one : where_suffix n g.it.tree g.it.rest ≡ read (last g.it.tree) g.it.rest = rw q refl in
      record { got = g.it; is = going-last (where_suffix n) one g.going; same = g.is }

  module _ (m : List Terminal) (h : after_word res.Where (left s o) ≡ Some m) where
    here : after_word res.Where g.it.rest ≡ Some m
    here = ap (after_word res.Where) (sym g.is.rest) ∙ h

    pub grows-deep : (e : Stop) (b : ℕ) → e ≡ stop.Deep b → n < d → Fails e total
    grows-deep e b f lt =
        let k = g.is.depth in
        let w : nat_le (depth_sig g.it.tree) n ≡ false = lt-leb (depth_sig g.it.tree) n (omega arith) in
        let q = here in
        let one : where_suffix n g.it.tree g.it.rest ≡ deep = rw (q, w) refl in
        going-fails (where_suffix n) e (fails-deep e b (where_suffix n g.it.tree g.it.rest) f one) g.going

    room : d ≤ n → where_suffix n g.it.tree g.it.rest ≡ then_read (read_wheres n m) (λ ws r. read (more (λ b. b) (tree.where_type g.it.tree ws)) r)
    room le =
        let k = g.is.depth in
        let w : nat_le (depth_sig g.it.tree) n ≡ true = le-leb (depth_sig g.it.tree) n (omega arith) in
        let q = here in rw (q, w) refl

    pub grows-fail : (e : Stop) → d ≤ n → Fails e (read_wheres n m) → Fails e total
    grows-fail e le f = going-fails (where_suffix n) e (fails-by e (where_suffix n g.it.tree g.it.rest) _ (room le) (fails-then e (read_wheres n m) _ f)) g.going

    pub grows-more : (ws : List WhereType) (e : ℕ) (o2 : List Token) (got : Read (List tree.WhereType)) (y : SigExp) (d2 : ℕ) → d ≤ n → read_wheres n m ≡ ok got → IsWheres s n m ws e o2 got → sig_of y ≡ where_onto (sig_of x) ws →
        d2 ≡ max d e + 1 → Growing s n i y d2 o2 total
    grows-more ws e o2 got y d2 le by is made deeper =
        let one : where_suffix n g.it.tree g.it.rest ≡ read (more (λ b. b) (tree.where_type g.it.tree got.tree)) got.rest = room le ∙ rw by refl in
        let l1 = word-shorter res.Where g.it.rest m here in let l2 = is.shorter in let l3 = g.is.shorter in
        let lt : length got.rest < length g.it.rest = omega arith in
        let k1 = g.is.depth in let k2 = is.depth in let k3 = is.fits in let k4 = g.is.fits in
        let same : sig_of y ≡ where_all s.file (bare_sig s.file g.it.tree) got.tree =
        made ∙ onto-is ws (sig_of x) ∙ ap (put_on (sig_of x)) is.same ∙ ap (λ (z : bare.SigExp). put_on z (map (bare_where s.file) got.tree)) g.is.same ∙ sym (all-is s.file got.tree (bare_sig s.file g.it.tree)) in
        record {
          it = record { tree = tree.where_type g.it.tree got.tree; rest = got.rest };
          is = record { rest = is.rest; same = same; depth = omega arith; fits = omega arith; shorter = omega arith };
          going = going-more (where_suffix n) one lt g.going;
        }
