-- Which programs have constants that the tables of a program can hold: integers and words of 32 bits, characters of 8, strings that stand there.
use Rattle.std.specs.Prelude.{◌≡◌, ℕ, ◌^◌, true, List, Some, nat_lt, slice_get, ⊤}
use Rattle.mlc_prims.specs.LitOf.{Literal, int, word, char, string, truth}
use Rattle.mlc_prims.specs.PrimOf.{fits_int}
use Rattle.ir_plain.specs.Kind.{Kind}
use Rattle.ir_plain.specs.Tree.{Case, is_literal, is_con, is_con_of, is_exn, is_exn_of, is_record, Exp, ret, let_in, exception_in, name_in, rec_in, switch, first, miss, counted, Arms, no_arms, arm, Op, use_of, const, con_alone, construct, ref_alone, refer, content, pack, make_record, select, prim_alone, prim, app, fn, block, handle, raise, raise_initial, Fun, last, more, Funs, no_funs, fun}

module _ (strings : List (List ℕ)) where
  abbrev pub IsHeld : Literal → Type 0
  IsHeld (int z) = fits_int z ≡ true
  IsHeld (word n) = nat_lt n (2 ^ 32) ≡ true
  IsHeld (char n) = nat_lt n 256 ≡ true
  IsHeld (string s) = (i : ℕ) × (slice_get strings i ≡ Some s)
  IsHeld (truth b) = ⊤

  module _ {F : Kind} where
    abbrev pub CaseHeld : Case F → Type 0
    CaseHeld (is_literal l) = IsHeld l
    CaseHeld (is_con c) = ⊤
    CaseHeld (is_con_of c x t) = ⊤
    CaseHeld (is_exn y) = ⊤
    CaseHeld (is_exn_of y x t) = ⊤
    CaseHeld (is_record size) = ⊤

    abbrev mutual
      pub AreHeld : Exp F → Type 0
      AreHeld (ret a) = ⊤
      AreHeld (let_in x ps t o e) = OpHeld o × AreHeld e
      AreHeld (exception_in x i t e) = AreHeld e
      AreHeld (name_in x y e) = AreHeld e
      AreHeld (rec_in ps fs e) = FunsHeld fs × AreHeld e
      AreHeld (switch a t arms) = ArmsHeld arms
      AreHeld (first e d) = AreHeld e × AreHeld d
      AreHeld miss = ⊤
      AreHeld (counted n e) = AreHeld e

      pub ArmsHeld : Arms F → Type 0
      ArmsHeld no_arms = ⊤
      ArmsHeld (arm c e arms) = CaseHeld c × (AreHeld e × ArmsHeld arms)

      pub OpHeld : Op F → Type 0
      OpHeld (use_of x) = ⊤
      OpHeld (const l) = IsHeld l
      OpHeld (con_alone c t) = ⊤
      OpHeld (construct m c t a) = ⊤
      OpHeld (ref_alone t) = ⊤
      OpHeld (refer m t a) = ⊤
      OpHeld (content t a) = ⊤
      OpHeld (pack m t y a) = ⊤
      OpHeld (make_record t row) = ⊤
      OpHeld (select t l a) = ⊤
      OpHeld (prim_alone p t) = ⊤
      OpHeld (prim m p t as_) = ⊤
      OpHeld (app place f a) = ⊤
      OpHeld (fn f) = FunHeld f
      OpHeld (block e) = AreHeld e
      OpHeld (handle e x d) = AreHeld e × AreHeld d
      OpHeld (raise a) = ⊤
      OpHeld (raise_initial i) = ⊤

      pub FunHeld : Fun F → Type 0
      FunHeld (last x t e) = AreHeld e
      FunHeld (more x t f) = FunHeld f

      pub FunsHeld : Funs F → Type 0
      FunsHeld no_funs = ⊤
      FunsHeld (fun x t f fs) = FunHeld f × FunsHeld fs
