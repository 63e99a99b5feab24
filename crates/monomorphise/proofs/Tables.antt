-- A table of a program stays one, where it is given a type, or a constructor.
use Rattle.std.proofs.Common.{◌≡◌, ℕ, zero, suc, List, [], ◌∷◌, ◌++◌, length, Bool, true, ◌&&◌, Option, Some, None, slice_get, refl, sym, ap, subst, ◌∙◌}
use Rattle.std.specs.Prelude.{slice_set}
use Rattle.ty_core.specs.Types.{Symbol, name, Typ, Typs, attribute, allowed}
use Rattle.ty_core.specs.declared.name.TyName.{TyName}
use Rattle.ir_mono.specs.of_ir_poly.Types.{Constructor, find}
use Rattle.ir_mono.specs.Types.{Row, Node, node, node_at, constructor_at, admits, Is, Stands, stands_var, stands_con, AllStand, stand_none, stand_more}
use Rattle.ir_mono.specs.Growing.{with_constructor}
use Rattle.ir_mono.proofs.Growing.{OldOrNew, is_old, is_new, node-where, constructor-where, node-still, admits-still, Entered, entered_old, entered_new, constructor-set, admits-set, type-there, pushed, nodes-added, added-table}
use Rattle.monomorphise.specs.Simple.{all_flagged, AllThere, none_there, one_there, ArgumentIs, argument_is_none, argument_is, IsTableOf, IsNewTypeOf, IsNewConstructorOf}

module _ (types types' : List Row) (still : (n : ℕ) (k : Node) → node_at types n ≡ Some k → node_at types' n ≡ Some k) where
  pub all-there-still : {ps : List ℕ} → AllThere types ps → AllThere types' ps
  all-there-still none_there = none_there
  all-there-still (one_there {p = p} k e h) = one_there k (still p k e) (all-there-still h)

  mutual
    pub stands-moved : {s : ℕ → ℕ} {n : ℕ} {t : Typ} → Stands types s n t → Stands types' s n t
    stands-moved stands_var = stands_var
    stands-moved {n = n} (stands_con i is) = stands_con (still n _ i) (all-moved is)

    all-moved : {s : ℕ → ℕ} {ns : List ℕ} {ts : Typs} → AllStand types s ns ts → AllStand types' s ns ts
    all-moved stand_none = stand_none
    all-moved (stand_more i is) = stand_more (stands-moved i) (all-moved is)

  argument-moved : {ps : List ℕ} {o : Option Typ} {a : Option ℕ} → ArgumentIs types ps o a → ArgumentIs types' ps o a
  argument-moved argument_is_none = argument_is_none
  argument-moved (argument_is i) = argument_is (stands-moved i)

pub within : (types : List Row) (n : ℕ) {k : Node} → node_at types n ≡ Some k → n ≡ length types → ⊥
within [] n e q = cc
within (p ∷ types) zero e q = absurd (omega (Rattle.std.proofs.Common.arith, q))
within (p ∷ types) (suc n) e q = within types n e (omega (Rattle.std.proofs.Common.arith, q))

pub admits-end : (types : List Row) (r : Row) → admits (types ++ r ∷ []) (length types) ≡ r.equality
admits-end [] r = refl
admits-end (p ∷ types) r = admits-end types r

-- the flags of parts that are there don't change
pub flag-back : (types : List Row) (r : Row) (n : ℕ) {k : Node} → node_at types n ≡ Some k → admits (types ++ r ∷ []) n ≡ admits types n
flag-back [] r n e = absurd (cc)
flag-back (p ∷ types) r zero e = refl
flag-back (p ∷ types) r (suc n) e = flag-back types r n e

pub flags-back : (types : List Row) (r : Row) {ps : List ℕ} → AllThere types ps → all_flagged (types ++ r ∷ []) ps ≡ all_flagged types ps
flags-back types r none_there = refl
flags-back types r (one_there {p = p} k e h) = rw (flag-back types r p e, flags-back types r h) refl

pub flags-set : (types types' : List Row) → ((n : ℕ) → admits types' n ≡ admits types n) → (ps : List ℕ) → all_flagged types' ps ≡ all_flagged types ps
flags-set types types' h [] = refl
flags-set types types' h (p ∷ ps) = rw (h p, flags-set types types' h ps) refl

module _ (constructors : List Constructor) (types : List Row) (r : Row) (tab : IsTableOf constructors types) (new : IsNewTypeOf types r) where
  abbrev grown : List Row
  grown = types ++ r ∷ []

  still : (n : ℕ) (k : Node) → node_at types n ≡ Some k → node_at grown n ≡ Some k
  still n k e = node-still types (r ∷ []) n e

  closed-grown : (n : ℕ) (h : Symbol) (ps : List ℕ) → Is grown n h ps → AllThere grown ps
  closed-grown n h ps e = go (node-where types r n e)
    where
      go : OldOrNew types r n (node h ps) → AllThere grown ps
      go (is_old d) = all-there-still types grown still (tab.closed n h ps d)
      go (is_new d q) = all-there-still types grown still (new.parts h ps q)

  equality-grown : (n : ℕ) (h : Symbol) (ps : List ℕ) → Is grown n h ps → allowed (attribute h) (all_flagged grown ps) ≡ true → admits grown n ≡ true
  equality-grown n h ps e f = go (node-where types r n e)
    where
      go : OldOrNew types r n (node h ps) → admits grown n ≡ true
      go (is_old d) = admits-still types (r ∷ []) n (tab.equality n h ps d (subst (λ b. allowed (attribute h) b ≡ true) (flags-back types r (tab.closed n h ps d)) f))
      go (is_new d q) =
          let flag = new.equality h ps q (subst (λ b. allowed (attribute h) b ≡ true) (flags-back types r (new.parts h ps q)) f) in
          subst (λ z. admits grown z ≡ true) (sym d) (admits-end types r ∙ flag)

  arguments-grown : (n c : ℕ) (y : TyName) (ps : List ℕ) (k : Constructor) (a : Option ℕ) → Is grown n (name y) ps → find constructors y c ≡ Some k → k.datatype ≡ y → constructor_at grown n c ≡ Some a → ArgumentIs grown ps k.argument a
  arguments-grown n c y ps k a e f s d = go (node-where types r n e)
    where
      old : constructor_at types n c ≡ Some a
      old = constructor-where types r n c new.row.none d

      go : OldOrNew types r n (node (name y) ps) → ArgumentIs grown ps k.argument a
      go (is_old i) = argument-moved types grown still (tab.arguments n c y ps k a i f s old)
      go (is_new i q) = let t = tab.sound.datatypes n c a old in absurd (within types n t.2 i)

  pub pushed-of : IsTableOf constructors grown
  pushed-of = record {
    sound = pushed types r tab.sound new.row;
    exceptions = (tab.exceptions.0, still tab.exceptions.0 _ tab.exceptions.1);
    closed = closed-grown;
    equality = equality-grown;
    arguments = arguments-grown;
  }

module _ (constructors : List Constructor) (types : List Row) (n : ℕ) (r : Row) (c : ℕ) (a : Option ℕ) (tab : IsTableOf constructors types) (new : IsNewConstructorOf constructors types n r c a) where
  abbrev added : List Row
  added = slice_set types n (with_constructor r c a)

  nodes : (i : ℕ) → node_at added i ≡ node_at types i
  nodes = nodes-added types n r c a tab.sound new.row

  kept : (i : ℕ) (k : Node) → node_at types i ≡ Some k → node_at added i ≡ Some k
  kept i k e = nodes i ∙ e

  before : (i : ℕ) (k : Node) → node_at added i ≡ Some k → node_at types i ≡ Some k
  before i k e = sym (nodes i) ∙ e

  flags : (i : ℕ) → admits added i ≡ admits types i
  flags = admits-set types n r c a new.row.there

  equality-added : (i : ℕ) (h : Symbol) (ps : List ℕ) → Is added i h ps → allowed (attribute h) (all_flagged added ps) ≡ true → admits added i ≡ true
  equality-added i h ps e f = flags i ∙ tab.equality i h ps (before i _ e) (subst (λ b. allowed (attribute h) b ≡ true) (flags-set types added flags ps) f)

  arguments-added : (i d : ℕ) (y : TyName) (ps : List ℕ) (k : Constructor) (b : Option ℕ) → Is added i (name y) ps → find constructors y d ≡ Some k → k.datatype ≡ y → constructor_at added i d ≡ Some b → ArgumentIs added ps k.argument b
  arguments-added i d y ps k b e f s h = argument-moved types added kept (go (constructor-set types n r c a new.row.there i d h))
    where
      go : Entered types n c a i d b → ArgumentIs types ps k.argument b
      go (entered_old q) = tab.arguments i d y ps k b (before i _ e) f s q
      go (entered_new q j z) =
          let here : node_at types n ≡ Some (node (name y) ps) = subst (λ v. node_at types v ≡ Some (node (name y) ps)) q (before i _ e) in
          let there : node_at types n ≡ Some r.type = type-there types n new.row.there in
          let same : r.type ≡ node (name y) ps = cc in
          subst (ArgumentIs types ps k.argument) z (new.argument y ps k same (subst (λ v. find constructors y v ≡ Some k) j f) s)

  pub added-of : IsTableOf constructors added
  added-of = record {
    sound = added-table types n r c a tab.sound new.row;
    exceptions = (tab.exceptions.0, kept tab.exceptions.0 _ tab.exceptions.1);
    closed = λ i h ps e. all-there-still types added kept (tab.closed i h ps (before i _ e));
    equality = equality-added;
    arguments = arguments-added;
  }
