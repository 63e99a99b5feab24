-- The parts of a `local`, and declarations of the core.
use Rattle.std.proofs.Common.{◌≡◌, ℕ, zero, suc, ◌<◌, ◌≤◌, ◌+◌, ◌-◌, Bool, true, false, ◌&&◌, if◌then◌else◌, List, [], ◌∷◌, ◌++◌, length, map, max, take, Option, Some, None, Result, Ok, Err, refl, sym, ap, ◌∙◌, subst, arith}
use Rattle.std.proofs.lemmas.List.{length-append}
use Rattle.std.proofs.Math.Seq.{take-append_seam}
use Rattle.mlc_base.specs.declared.place.Place.{Place}
use Rattle.mlc_names.specs.declared.token.Token.{Token}
use Rattle.mlc_names.specs.declared.token.Reserved.TheVariants as res
use Rattle.sml_tree.specs.Terminal.{Terminal, reserved, number, constant, alpha, symbol, star, long_alpha, long_symbol, long_star, type_var}
use Rattle.sml_tree.specs.BareTree as core
use Rattle.sml_tree.specs.Bare.{at, bare_dec, bare_decs, is_directive}
use Rattle.sml_tree.specs.ReadTree as core_read
use Rattle.sml_tree.specs.ReadTree.{local_dec}
use Rattle.sml_tree.specs.TreeOf as core_of
use Rattle.sml_tree.specs.Depth.{depth_dec}
use Rattle.sml_tree.specs.Levels.{after_dec, added_by}
use Rattle.sml_tree.specs.Fixity.{Fixity}
use Rattle.sml_grammar.specs.Answer.{Read, Answer, ok, bad, deep, read, then_read}
use Rattle.sml_grammar.specs.Terminals.{after_word, word_then, place_at}
use Rattle.sml_grammar.specs.Expressions.{Reader, DecsReader, readers, dec_start, dec_by}
use Rattle.sml_grammar.proofs.Answers.{at-path}
use Rattle.sml_grammar.proofs.Words.{word-at}
use Rattle.module_tree.specs.BareModules as bare
use Rattle.module_tree.specs.ReadModules.{StrDecs, no_str_decs, str_dec, StrDec, core_dec, structure_dec, local_str}
use Rattle.module_tree.specs.ModuleBare.{bare_str_decs}
use Rattle.module_tree.specs.ModuleDepth.{depth_str_decs, depth_str_dec}
use Rattle.module_tree.specs.Scope.{is_core_dec, are_core_decs, added_decs, after_decs, after_str_dec}
use Rattle.module_code.specs.TreeOf.{decs_of}
use Rattle.module_grammar.specs.Structures.{core_decs, local_of, StrReader, StrDecsReader, str_readers, local_rest, str_dec_by, read_str_binds}
use Rattle.module_grammar.proofs.StrSound.{core-depth, core-added}
use Rattle.phrase_base.specs.declared.source.Source.{Source}
use Rattle.phrase_base.specs.declared.stop.Stop.{Stop}
use Rattle.phrase_base.specs.declared.got.Got.{Got}
use Rattle.phrase_base.specs.Gives.{Fails, Gave, Gives}
use Rattle.module_grammar.specs.Sources.{inner_decs}
use Rattle.phrase_base.specs.Left.{left}
use Rattle.phrase_base.proofs.Loop.{fails-then, fails-by}
use Rattle.str_phrases.specs.declared.decs.Decs.{Decs}
use Rattle.str_phrases.specs.declared.decs.Decs.TheVariants as decs
use Rattle.str_phrases.specs.declared.decs.Item.{Item}
use Rattle.str_phrases.specs.CoreRead.{IsCoreDec, core_item, bare_core, inner_core}
use Rattle.str_phrases.specs.StrsRead.{items_of, as_items, decs_list, mixed_list, local_list, is_core_item, are_core, bare_one, bare_list, IsStrDec, IsStrDecs, read_core, local_by}
use Rattle.str_phrases.proofs.Declaring.{decs_all}

-- declarations of the core alone stand for themselves

uncore : bare.StrDec → List core.Dec
uncore (bare.core_dec d) = d ∷ []
uncore (bare.structure_dec p bs) = []
uncore (bare.local_str p ds es) = []

uncored : List bare.StrDec → List core.Dec
uncored [] = []
uncored (d ∷ ds) = uncore d ++ uncored ds

uncored-core : {D : Type 0} (of : D → core.Dec) (ds : List D) → uncored (map (λ d. bare.core_dec (of d)) ds) ≡ map of ds
unfolding uncored uncore
uncored-core of [] = refl
uncored-core of (d ∷ ds) = ap (λ (z : List core.Dec). of d ∷ z) (uncored-core of ds)

uncored-one : (b : Bool) (x : core.Dec) (xs : List bare.StrDec) (ds : core.Decs) → core_of.decs_of (uncored xs) ≡ ds → core_of.decs_of (uncored ((if b then [] else bare.core_dec x ∷ []) ++ xs)) ≡ (if b then ds else core.dec x ds)
unfolding uncored uncore
uncored-one true x xs ds e = e
uncored-one false x xs ds e = ap (core.dec x) e

uncored-list : (f : ℕ) (ds : StrDecs) → are_core_decs ds ≡ true → core_of.decs_of (uncored (bare_list f ds)) ≡ bare_decs f (core_decs ds)
unfolding uncored
uncored-list f no_str_decs e = refl
uncored-list f (str_dec (core_dec d) ds) e = uncored-one (is_directive d) (bare_dec f d) (bare_list f ds) (bare_decs f (core_decs ds)) (uncored-list f ds e)
uncored-list f (str_dec (structure_dec p bs) ds) e = absurd (cc)
uncored-list f (str_dec (local_str p ds es) ds') e = absurd (cc)

core-part : {D : Type 0} (of : D → core.Dec) (f : ℕ) (xs : List D) (ds : StrDecs) → map (λ d. bare.core_dec (of d)) xs ≡ bare_list f ds → are_core_decs ds ≡ true → core_of.decs_of (map of xs) ≡ bare_decs f (core_decs ds)
core-part of f xs ds e c = ap core_of.decs_of (sym (uncored-core of xs) ∙ ap uncored e) ∙ uncored-list f ds c

-- the whole, by what its parts are

pub record LocalIs (f : Fixity) (file p : ℕ) (ds es : StrDecs) (list : List bare.StrDec) : Type 0 where
  pub list_is : list ≡ bare_one file (local_of p ds es)
  pub core_is : (are_core_decs ds && are_core_decs es) ≡ is_core_dec (local_of p ds es)
  pub depth_is : depth_str_dec (local_of p ds es) ≡ suc (max (depth_str_decs ds) (depth_str_decs es))
  pub after_is : after_str_dec f (local_of p ds es) ≡ added_decs es ++ f

all-core : (f : Fixity) (file p : ℕ) (ds es : StrDecs) (a b : core.Decs) → are_core_decs ds ≡ true → are_core_decs es ≡ true → a ≡ bare_decs file (core_decs ds) → b ≡ bare_decs file (core_decs es) →
    LocalIs f file p ds es (bare.core_dec (core.local_dec (at file p) a b) ∷ [])
all-core f file p ds es a b c1 c2 e1 e2 =
    let d1 = core-depth ds c1 in let d2 = core-depth es c2 in let u = core-added es c2 in
    record { list_is = rw (c1, c2, e1, e2) refl; core_is = rw (c1, c2) refl; depth_is = rw (c1, c2) (rw (d1, d2) refl); after_is = rw (c1, c2) (rw u refl) }

not-core : (f : Fixity) (file p : ℕ) (ds es : StrDecs) (a b : bare.StrDecs) → (are_core_decs ds && are_core_decs es) ≡ false → a ≡ bare_str_decs file ds → b ≡ bare_str_decs file es →
    LocalIs f file p ds es (bare.local_str (at file p) a b ∷ [])
not-core f file p ds es a b c e1 e2 = record { list_is = rw (c, e1, e2) refl; core_is = rw c refl; depth_is = rw c refl; after_is = rw c refl }

pub local-is : {D : Type 0} (of : D → core.Dec) (f : Fixity) (file p : ℕ) (q : Place) (x y : Decs D) (ds es : StrDecs) → q ≡ at file p → decs_list of x ≡ bare_list file ds → are_core x ≡ are_core_decs ds → decs_list of y ≡ bare_list file es →
    are_core y ≡ are_core_decs es → LocalIs f file p ds es (local_list of q x y)
local-is of f file p q (decs.Core xs) (decs.Core ys) ds es e l1 c1 l2 c2 =
    subst (λ (z : Place). LocalIs f file p ds es (bare.core_dec (core.local_dec z (core_of.decs_of (map of xs.items)) (core_of.decs_of (map of ys.items))) ∷ [])) (sym e)
    (all-core f file p ds es _ _ (sym c1) (sym c2) (core-part of file xs.items ds l1 (sym c1)) (core-part of file ys.items es l2 (sym c2)))
local-is of f file p q (decs.Core xs) (decs.Mixed ys) ds es e l1 c1 l2 c2 =
    let k1 = sym c1 in let k2 = sym c2 in
    subst (λ (z : Place). LocalIs f file p ds es (mixed_list of z (decs.Core xs) (decs.Mixed ys))) (sym e) (not-core f file p ds es _ _ (rw (k1, k2) refl) (ap decs_of l1 ∙ decs_all file ds) (ap decs_of l2 ∙ decs_all file es))
local-is of f file p q (decs.Mixed xs) y ds es e l1 c1 l2 c2 =
    let k1 = sym c1 in
    subst (λ (z : Place). LocalIs f file p ds es (mixed_list of z (decs.Mixed xs) y)) (sym e) (not-core f file p ds es _ _ (rw k1 refl) (ap decs_of l1 ∙ decs_all file ds) (ap decs_of l2 ∙ decs_all file es))

newest-are : (xs ys : Fixity) → take (length (xs ++ ys) - length ys) (xs ++ ys) ≡ xs
newest-are xs ys = ap (λ (k : ℕ). take k (xs ++ ys)) (fewer (length-append xs ys)) ∙ take-append_seam xs ys
  where
    fewer : length (xs ++ ys) ≡ length xs + length ys → length (xs ++ ys) - length ys ≡ length xs
    fewer e = omega arith

module _ {D : Type 0} (of : D → core.Dec) (s : Source) (n : ℕ) (f f1 : Fixity) (p : ℕ) (i : List Terminal) (x : Decs D) (d : ℕ) (o : List Token) (first : Read StrDecs) (by : (str_readers n).decs f i ≡ ok first) (is : IsStrDecs of f f1 s n i x d o first) where
  rest-is : local_by n f p i ≡ local_rest (str_readers n).decs f p first.tree (left s o)
  rest-is = (rw by refl) ∙ ap (local_rest (str_readers n).decs f p first.tree) (sym is.rest)

  pub local-no_in : after_word res.In (left s o) ≡ None → local_by n f p i ≡ bad
  local-no_in h = rest-is ∙ rw h refl

  module _ (k : List Terminal) (is_in : after_word res.In (left s o) ≡ Some k) where
    inside-is : local_by n f p i ≡ then_read ((str_readers n).decs f1 k) (λ es m. word_then res.End (λ q. read (local_of p first.tree es) q) m)
    inside-is = rest-is ∙ (rw is_in refl) ∙ ap (λ (z : Fixity). then_read ((str_readers n).decs z k) (λ es m. word_then res.End (λ q. read (local_of p first.tree es) q) m)) (sym is.force)

    pub local-second : (e : Stop) → Fails e ((str_readers n).decs f1 k) → Fails e (local_by n f p i)
    local-second e h = subst (λ (z : Answer StrDec). Fails e z) (sym inside-is) (fails-then e ((str_readers n).decs f1 k) (λ es m. word_then res.End (λ q. read (local_of p first.tree es) q) m) h)

    module _ (f2 : Fixity) (y : Decs D) (e : ℕ) (o2 : List Token) (second : Read StrDecs) (by2 : (str_readers n).decs f1 k ≡ ok second) (is2 : IsStrDecs of f1 f2 s n k y e o2 second) where
      end-is : local_by n f p i ≡ word_then res.End (λ q. read (local_of p first.tree second.tree) q) (left s o2)
      end-is = inside-is ∙ (rw by2 refl) ∙ ap (word_then res.End (λ q. read (local_of p first.tree second.tree) q)) (sym is2.rest)

      pub local-no_end : after_word res.End (left s o2) ≡ None → local_by n f p i ≡ bad
      local-no_end h = end-is ∙ rw h refl

      pub local-done : (o3 : List Token) (t : Item D) (q : Place) (d' : ℕ) (f' : Fixity) → after_word res.End (left s o2) ≡ Some (left s o3) → length (left s o3) < length i → q ≡ at s.file p →
          items_of of (Some t) ≡ local_list of q x y → is_core_item (Some t) ≡ (are_core x && are_core y) → d' ≡ max d e + 1 → f' ≡ take (length f2 - length f1) f2 ++ f →
          Gave (λ (_ : Unit {0}) r. IsStrDec of f f' s (n + 1) i (Some t) d' o3 r) tt (local_by n f p i)
      local-done o3 t q d' f' h lt at_ list cores deeper force =
          let w = local-is of f s.file p q x y first.tree second.tree at_ is.same is.core is2.same is2.core in
          let e1 = is.depth in let e2 = is2.depth in let l1 = is.fits in let l2 = is2.fits in let dd = w.depth_is in
          let c1 = is.core in let c2 = is2.core in
          record {
            got = record { tree = local_of p first.tree second.tree; rest = left s o3 };
            is = end-is ∙ rw h refl;
            same = record {
              rest = refl;
              same = list ∙ w.list_is;
              core = cores ∙ rw (c1, c2) refl ∙ w.core_is;
              depth = omega arith;
              fits = omega arith;
              shorter = lt;
              force = force ∙ ap (λ (z : Fixity). z ++ f) (ap (λ (z : Fixity). take (length z - length f1) z) is2.force ∙ newest-are (added_decs second.tree) f1) ∙ sym w.after_is;
            };
          }

-- which declaration stands here

pub structure-at : (n : ℕ) (self : StrReader) (inner : StrDecsReader) (f : Fixity) (i o : List Terminal) → after_word res.Structure i ≡ Some o →
    str_dec_by n self inner f i ≡ then_read (read_str_binds n self f o) (λ bs q. read (structure_dec (place_at i) bs) q)
structure-at n self inner f i o h = let q = at-path (word-at res.Structure i o h) in rw q.1 refl

local-starts : (n : ℕ) (self : StrReader) (inner : StrDecsReader) (f : Fixity) (i o : List Terminal) → after_word res.Local i ≡ Some o → str_dec_by n self inner f i ≡ then_read (inner f o) (local_rest inner f (place_at i))
local-starts n self inner f i o h = let q = at-path (word-at res.Local i o h) in rw q.1 refl

pub local-deep : (n : ℕ) (self : StrReader) (f : Fixity) (i o : List Terminal) → n ≡ 0 → after_word res.Local i ≡ Some o → str_dec_by n self (inner_decs n) f i ≡ deep
local-deep zero self f i o e h = local-starts zero self (inner_decs zero) f i o h
local-deep (suc n) self f i o e h = absurd (omega arith)

pub local-at : (n : ℕ) (self : StrReader) (f : Fixity) (i o : List Terminal) → 0 < n → after_word res.Local i ≡ Some o → str_dec_by n self (inner_decs n) f i ≡ local_by (n - 1) f (place_at i) o
local-at zero self f i o e h = absurd (omega arith)
local-at (suc n) self f i o e h = let m : suc n - 1 ≡ n = omega arith in local-starts (suc n) self (inner_decs (suc n)) f i o h ∙ rw m refl

pub core-at : (n : ℕ) (self : StrReader) (inner : StrDecsReader) (f : Fixity) (i : List Terminal) → after_word res.Structure i ≡ None → after_word res.Local i ≡ None → str_dec_by n self inner f i ≡ read_core n f (dec_start i)
core-at n self inner f [] a b = refl
core-at n self inner f (reserved p res.Structure ∷ o) a b = absurd (cc)
core-at n self inner f (reserved p res.Local ∷ o) a b = absurd (cc)
core-at n self inner f (reserved p _ ∷ o) a b = refl
core-at n self inner f (number p q r ∷ o) a b = refl
core-at n self inner f (constant p q ∷ o) a b = refl
core-at n self inner f (alpha p q ∷ o) a b = refl
core-at n self inner f (symbol p q ∷ o) a b = refl
core-at n self inner f (star p q ∷ o) a b = refl
core-at n self inner f (long_alpha p q r ∷ o) a b = refl
core-at n self inner f (long_symbol p q r ∷ o) a b = refl
core-at n self inner f (long_star p q r ∷ o) a b = refl
core-at n self inner f (type_var p q ∷ o) a b = refl

-- what is said of a declaration, of the same answer, after more terminals and with another name for the depth
pub dec-by : {D : Type 0} (of : D → core.Dec) (f f' : Fixity) (s : Source) (n m : ℕ) (i j : List Terminal) (r : Result (Got (Option (Item D))) Stop) (a b : Answer StrDec) → a ≡ b → n ≡ m → length i ≤ length j →
    Gives (λ (x : Got (Option (Item D))) g. IsStrDec of f f' s n i x.it x.depth x.rest.now g) r b → Gives (λ (x : Got (Option (Item D))) g. IsStrDec of f f' s m j x.it x.depth x.rest.now g) r a
dec-by of f f' s n m i j (Err e) a b p q le h = fails-by e a b p h
dec-by of f f' s n m i j (Ok x) a b p q le h =
    let g = h.same in let fits = g.fits in let sh = g.shorter in
    record { got = h.got; is = p ∙ h.is; same = record { rest = g.rest; same = g.same; core = g.core; depth = g.depth; fits = omega arith; shorter = omega arith; force = g.force } }

-- a declaration of the core among others

as-core : {D : Type 0} (of : D → core.Dec) (x : Option D) (b : Bool) (d : core.Dec) → core_item of x ≡ (if b then [] else d ∷ []) → as_items of x ≡ (if b then [] else bare.core_dec d ∷ [])
as-core {D} of x b d e = cored x ∙ ap (map bare.core_dec) e ∙ chosen b
  where
    cored : (y : Option D) → as_items of y ≡ map bare.core_dec (core_item of y)
    cored None = refl
    cored (Some z) = refl

    chosen : (b : Bool) → map bare.core_dec (if b then [] else d ∷ []) ≡ (if b then [] else bare.core_dec d ∷ [])
    chosen true = refl
    chosen false = refl

pub core-done : {D : Type 0} (of : D → core.Dec) (f f' : Fixity) (s : Source) (n : ℕ) (i : List Terminal) (x : Option D) (t : Option (Item D)) (d : ℕ) (o : List Token) (got : Read core_read.Dec) → dec_by n (readers n).exp (inner_core n) f (dec_start i) ≡ ok got →
    IsCoreDec of f f' s n i x d o got → items_of of t ≡ as_items of x → is_core_item t ≡ true → Gave (λ (y : Option (Item D)) r. IsStrDec of f f' s n i y d o r) t (read_core n f (dec_start i))
core-done of f f' s n i x t d o got by is list kind =
    record {
      got = record { tree = core_dec got.tree; rest = got.rest };
      is = rw by refl;
      same = record { rest = is.rest; same = list ∙ as-core of x (is_directive got.tree) (bare_dec s.file got.tree) is.same; core = kind; depth = is.depth; fits = is.fits; shorter = is.shorter; force = is.force };
    }
