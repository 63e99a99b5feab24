-- The loop over each signature after a structure.
use Rattle.std.proofs.Common.{◌≡◌, ℕ, ◌<◌, ◌≤◌, ◌+◌, List, [], ◌∷◌, length, max, Option, Some, None, true, false, nat_le, refl, sym, ap, ◌∙◌, subst, arith}
use Rattle.std.proofs.lemmas.Bool.{le-leb, lt-leb}
use Rattle.mlc_base.specs.declared.place.Place.{Place}
use Rattle.mlc_names.specs.declared.token.Token.{Token}
use Rattle.mlc_names.specs.declared.token.Reserved.TheVariants as res
use Rattle.sml_tree.specs.Terminal.{Terminal}
use Rattle.sml_tree.specs.Terminal as tm
use Rattle.sml_tree.specs.Bare.{at}
use Rattle.sml_tree.specs.BareTree as core
use Rattle.sml_grammar.specs.Answer.{Read, Answer, ok, bad, deep, read, then_read, last, more, whole}
use Rattle.sml_grammar.specs.Terminals.{place_at}
use Rattle.module_tree.specs.BareModules as bare
use Rattle.module_tree.specs.ReadModules as tree
use Rattle.module_tree.specs.ReadModules.{str_place}
use Rattle.module_tree.specs.ModuleDepth.{depth_str}
use Rattle.module_code.specs.TreeOf.{sig_of, seal_of, str_of}
use Rattle.module_code.specs.declared.signatures.SigExp as code_sig
use Rattle.module_code.specs.declared.structures.Seal.{Seal}
use Rattle.module_code.specs.declared.structures.StrExp.{StrExp}
use Rattle.module_grammar.specs.Signatures.{read_sig}
use Rattle.module_grammar.specs.Structures.{Sealing, sealing, seal_suffix}
use Rattle.phrase_base.specs.declared.source.Source.{Source}
use Rattle.phrase_base.specs.declared.stop.Stop.{Stop}
use Rattle.phrase_base.specs.declared.stop.Stop.TheVariants as stop
use Rattle.phrase_base.specs.Gives.{Fails, Gave}
use Rattle.phrase_base.specs.Left.{left}
use Rattle.phrase_base.proofs.Loop.{fails-then, fails-by, fails-deep, Going, going-start, going-more, going-last, going-fails}
use Rattle.phrase_base.proofs.Shorter.{word-shorter}
use Rattle.sig_phrases.specs.SigsRead.{IsSig}
use Rattle.str_phrases.specs.StrsRead.{IsStr}

-- what follows the sign is shorter

rest_of : Option Sealing → List Terminal
rest_of (Some k) = k.rest
rest_of None = []

pub sealing-shorter : (i : List Terminal) (k : Sealing) → sealing i ≡ Some k → length k.rest < length i
unfolding rest_of
sealing-shorter [] k h = absurd (cc)
sealing-shorter (tm.reserved p res.Colon ∷ o) k h = let q : o ≡ k.rest = ap rest_of h in let l = ap (λ (z : List Terminal). length z) q in omega arith
sealing-shorter (tm.reserved p res.ColonGreater ∷ o) k h = let q : o ≡ k.rest = ap rest_of h in let l = ap (λ (z : List Terminal). length z) q in omega arith
sealing-shorter (tm.reserved p _ ∷ o) k h = absurd (cc)
sealing-shorter (tm.number p n b ∷ o) k h = absurd (cc)
sealing-shorter (tm.constant p c ∷ o) k h = absurd (cc)
sealing-shorter (tm.alpha p x ∷ o) k h = absurd (cc)
sealing-shorter (tm.symbol p x ∷ o) k h = absurd (cc)
sealing-shorter (tm.star p x ∷ o) k h = absurd (cc)
sealing-shorter (tm.long_alpha p q x ∷ o) k h = absurd (cc)
sealing-shorter (tm.long_symbol p q x ∷ o) k h = absurd (cc)
sealing-shorter (tm.long_star p q x ∷ o) k h = absurd (cc)
sealing-shorter (tm.type_var p a ∷ o) k h = absurd (cc)

pub record Sealed {D : Type 0} (of : D → core.Dec) (s : Source) (n : ℕ) (i : List Terminal) (x : StrExp D) (d : ℕ) (o : List Token) (total : Answer tree.StrExp) : Type 0 where
  pub it : Read tree.StrExp
  pub is : IsStr of s (n + 1) i x d o it
  pub going : Going (seal_suffix n) it.tree it.rest (λ b. b) total

pub seals-start : {D : Type 0} (of : D → core.Dec) (s : Source) (n : ℕ) (i : List Terminal) (x : StrExp D) (d : ℕ) (o : List Token) (a : Read tree.StrExp) → IsStr of s (n + 1) i x d o a → Sealed of s n i x d o (whole (seal_suffix n) a.tree a.rest)
seals-start of s n i x d o a h = record { it = a; is = h; going = going-start (seal_suffix n) a.tree a.rest }

module _ {D : Type 0} (of : D → core.Dec) (s : Source) (n : ℕ) (i : List Terminal) (x : StrExp D) (d : ℕ) (o : List Token) (total : Answer tree.StrExp) (g : Sealed of s n i x d o total) where
  pub seals-last : sealing (left s o) ≡ None → Gave (λ (y : StrExp D) r. IsStr of s (n + 1) i y d o r) x total
  seals-last h =
      let q : sealing g.it.rest ≡ None = ap sealing (sym g.is.rest) ∙ h in
      let one : seal_suffix n g.it.tree g.it.rest ≡ read (last g.it.tree) g.it.rest = rw q refl in
      record { got = g.it; is = going-last (seal_suffix n) one g.going; same = g.is }

  module _ (k : Sealing) (h : sealing (left s o) ≡ Some k) where
    here : sealing g.it.rest ≡ Some k
    here = ap sealing (sym g.is.rest) ∙ h

    pub seals-deep : (e : Stop) (b : ℕ) → e ≡ stop.Deep b → n < d → Fails e total
    seals-deep e b f lt =
        let j = g.is.depth in
        let w : nat_le (depth_str g.it.tree) n ≡ false = lt-leb (depth_str g.it.tree) n (omega arith) in
        let q = here in
        let one : seal_suffix n g.it.tree g.it.rest ≡ deep = rw (q, w) refl in
        going-fails (seal_suffix n) e (fails-deep e b (seal_suffix n g.it.tree g.it.rest) f one) g.going

    room : d ≤ n → seal_suffix n g.it.tree g.it.rest ≡ then_read (read_sig n k.rest) (λ y r. read (more (λ b. b) (tree.constrained g.it.tree k.seal y)) r)
    room le =
        let j = g.is.depth in
        let w : nat_le (depth_str g.it.tree) n ≡ true = le-leb (depth_str g.it.tree) n (omega arith) in
        let q = here in rw (q, w) refl

    pub seals-fail : (e : Stop) → d ≤ n → Fails e (read_sig n k.rest) → Fails e total
    seals-fail e le f = going-fails (seal_suffix n) e (fails-by e (seal_suffix n g.it.tree g.it.rest) _ (room le) (fails-then e (read_sig n k.rest) _ f)) g.going

    pub seals-more : (place : Place) (y : code_sig.SigExp) (e : ℕ) (o2 : List Token) (got : Read tree.SigExp) (z : StrExp D) (d2 : ℕ) → d ≤ n → read_sig n k.rest ≡ ok got → IsSig s n k.rest y e o2 got → place ≡ at s.file (place_at i) →
        str_of of z ≡ bare.constrained place (str_of of x) k.seal (sig_of y) → d2 ≡ max d e + 1 → Sealed of s n i z d2 o2 total
    seals-more place y e o2 got z d2 le by is at_ made deeper =
        let one : seal_suffix n g.it.tree g.it.rest ≡ read (more (λ b. b) (tree.constrained g.it.tree k.seal got.tree)) got.rest = room le ∙ rw by refl in
        let l1 = sealing-shorter g.it.rest k here in let l2 = is.shorter in let l3 = g.is.shorter in
        let lt : length got.rest < length g.it.rest = omega arith in
        let k1 = g.is.depth in let k2 = is.depth in let k3 = is.fits in let k4 = g.is.fits in
        let p1 = g.is.same in let p2 = is.same in let p3 = g.is.place in
        record {
          it = record { tree = tree.constrained g.it.tree k.seal got.tree; rest = got.rest };
          is = record { rest = is.rest; same = made ∙ rw (at_, p1, p2, p3) refl; depth = omega arith; place = p3; fits = omega arith; shorter = omega arith };
          going = going-more (seal_suffix n) one lt g.going;
        }

-- whatever declarations stand for
abbrev pub SealsGoing : {D : Type 0} → Source → ℕ → Place → StrExp D → ℕ → List Token → StrExp D → ℕ → List Token → Type 0
SealsGoing {D} s n place first depth tokens x d o = (of : D → core.Dec) (i : List Terminal) (a : Read tree.StrExp) → place ≡ at s.file (place_at i) → IsStr of s (n + 1) i first depth tokens a → Sealed of s n i x d o (whole (seal_suffix n) a.tree a.rest)
