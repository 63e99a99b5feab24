-- Each turn of a list of descriptions or identifiers reads one.
use Rattle.std.proofs.Common.{◌≡◌, ℕ, ◌≤◌, List, [], ◌∷◌, length, Option, Some, None, refl, ap, arith}
use Rattle.mlc_names.specs.declared.token.Reserved.{Reserved}
use Rattle.mlc_names.specs.declared.token.Reserved.TheVariants as res
use Rattle.mlc_base.specs.declared.place.Place.{Place}
use Rattle.mlc_names.specs.declared.token.Token.{Token}
use Rattle.sml_tree.specs.Terminal.{Terminal, LongId}
use Rattle.sml_tree.specs.Bare.{at}
use Rattle.module_code.specs.declared.signatures.IdAt.{IdAt}
use Rattle.phrase_base.specs.declared.source.Source.{Source}
use Rattle.phrase_base.specs.Gives.{Gave}
use Rattle.phrase_base.specs.Left.{left}
use Rattle.phrase_base.proofs.Shorter.{first-shorter}
use Rattle.sml_tree.specs.ReadTree.{Placed, Ty}
use Rattle.sml_tree.specs.declared.ident.Tyvar.{Tyvar}
use Rattle.sml_grammar.specs.Answer.{Answer, ok, bad, deep, read, then_read, Turn}
use Rattle.sml_grammar.specs.Terminals.{Taken, taken, place_at, first_as, as_vid, as_tycon, as_long_tycon, after_word, on_some, then_taken, word_then, separated, NoState, no_state}
use Rattle.sml_grammar.specs.Types.{read_ty}
use Rattle.sml_grammar.specs.Bindings.{read_tyvars, tyvars_place, bound_tycon, put_more}
use Rattle.module_tree.specs.ReadModules.{ValDesc, TypeDesc, ConDesc, WhereType}
use Rattle.module_grammar.specs.Signatures.{as_module_id, val_desc_turn, type_desc_turn, con_desc_turn, read_con_descs, data_desc_turn, tycon_turn, sig_id_turn, and_type, where_turn}
use Rattle.phrase_base.proofs.Lists.{SepLess, word-less, Parts, then-then}
use Rattle.spec_phrases.specs.DescsRead.{read_val_desc, read_type_desc, read_of, read_con_desc, read_data_desc}
use Rattle.spec_phrases.specs.ListsRead.{read_tycon, read_id, IsId, id_follows, read_where, after_and_type}

abbrev put_after : {A : Type 0} → Reserved → A → List Terminal → Answer (Turn (List A) NoState)
put_after w b o = separated (after_word w o) (λ bs. b ∷ bs) (b ∷ []) no_state o

abbrev desc : Placed ℕ → Ty → ValDesc
desc x a = record { place = x.place; vid = x.it; ty = a }

pub val-turns : (n : ℕ) → Parts (val_desc_turn n) (read_val_desc n) (after_word res.And)
val-turns n i = go (first_as as_vid i)
  where
    typed : (x : Placed ℕ) (v : Option (List Terminal)) → on_some v (λ k. then_read (read_ty n 0 k) (λ a o. put_after res.And (desc x a) o)) bad ≡
        then_read (on_some v (λ k. then_read (read_ty n 0 k) (λ a o. read (desc x a) o)) bad) (put_after res.And)
    typed x (Some k) = then-then (read_ty n 0 k) (desc x) (put_after res.And)
    typed x None = refl

    go : (x : Option (Taken (Placed ℕ))) → then_taken x (λ y m. word_then res.Colon (λ k. then_read (read_ty n 0 k) (λ a o. put_after res.And (desc y a) o)) m) ≡
        then_read (then_taken x (λ y m. word_then res.Colon (λ k. then_read (read_ty n 0 k) (λ a o. read (desc y a) o)) m)) (put_after res.And)
    go (Some x) = typed x.it (after_word res.Colon x.rest)
    go None = refl

-- tyvarseq tycon
abbrev type_of : List Terminal → List Tyvar → Placed ℕ → TypeDesc
type_of i as_ t = record { place = place_at i; tyvars = as_; tycon = t.it }

pub type-turns : Parts type_desc_turn read_type_desc (after_word res.And)
type-turns i = go (read_tyvars i)
  where
    tycon : (as_ : List Tyvar) (x : Option (Taken (Placed ℕ))) → then_taken x (λ t o. put_after res.And (type_of i as_ t) o) ≡
        then_read (then_taken x (λ t o. read (type_of i as_ t) o)) (put_after res.And)
    tycon as_ (Some x) = refl
    tycon as_ None = refl

    go : (x : Answer (List Tyvar)) → then_read x (λ as_ m. then_taken (first_as as_tycon m) (λ t o. put_after res.And (type_of i as_ t) o)) ≡
        then_read (then_read x (λ as_ m. then_taken (first_as as_tycon m) (λ t o. read (type_of i as_ t) o))) (put_after res.And)
    go (ok r) = tycon r.tree (first_as as_tycon r.rest)
    go bad = refl
    go deep = refl

-- vid [of ty]
abbrev con_of : Placed ℕ → Option Ty → ConDesc
con_of x t = record { place = x.place; vid = x.it; of_ty = t }

pub con-turns : (n : ℕ) (w : Reserved) → Parts (con_desc_turn n w) (read_con_desc n) (after_word w)
con-turns n w i = go (first_as as_vid i)
  where
    go : (x : Option (Taken (Placed ℕ))) → then_taken x (λ y m. then_read (read_of n m) (λ t o. put_after w (con_of y t) o)) ≡
        then_read (then_taken x (λ y m. then_read (read_of n m) (λ t o. read (con_of y t) o))) (put_after w)
    go (Some x) = then-then (read_of n x.rest) (con_of x.it) (put_after w)
    go None = refl

-- tyvarseq tycon = condesc | ..

bound-then : {A B : Type 0} (f : List Tyvar → ℕ → List Terminal → Answer A) (g : A → List Terminal → Answer B) (h : List Tyvar → ℕ → List Terminal → Answer B) → ((as_ : List Tyvar) (t : ℕ) (k : List Terminal) → h as_ t k ≡ then_read (f as_ t k) g) →
    (i : List Terminal) → bound_tycon h i ≡ then_read (bound_tycon f i) g
bound-then {A} {B} f g h is i = go (read_tyvars i)
  where
    equals : (as_ : List Tyvar) (t : ℕ) (x : Option (List Terminal)) → on_some x (h as_ t) bad ≡ then_read (on_some x (f as_ t) bad) g
    equals as_ t (Some k) = is as_ t k
    equals as_ t None = refl

    tycon : (as_ : List Tyvar) (x : Option (Taken (Placed ℕ))) → then_taken x (λ t k. word_then res.Equals (h as_ t.it) k) ≡ then_read (then_taken x (λ t k. word_then res.Equals (f as_ t.it) k)) g
    tycon as_ (Some x) = equals as_ x.it.it (after_word res.Equals x.rest)
    tycon as_ None = refl

    go : (x : Answer (List Tyvar)) → then_read x (λ as_ m. then_taken (first_as as_tycon m) (λ t k. word_then res.Equals (h as_ t.it) k)) ≡ then_read (then_read x (λ as_ m. then_taken (first_as as_tycon m) (λ t k. word_then res.Equals (f as_ t.it) k))) g
    go (ok r) = tycon r.tree (first_as as_tycon r.rest)
    go bad = refl
    go deep = refl

pub data-turns : (n : ℕ) → Parts (data_desc_turn n) (read_data_desc n) (after_word res.And)
data-turns n i = bound-then _ (λ b o. put_after res.And b o) _ (λ as_ t k. then-then (read_con_descs n res.Bar k) _ _) i

-- identifiers

pub tycon-parts : Parts tycon_turn read_tycon (after_word res.Equals)
tycon-parts i = go (first_as as_long_tycon i)
  where
    go : (x : Option (Taken (Placed LongId))) → then_taken x (λ c o. put_after res.Equals c o) ≡ then_read (then_taken x (λ c o. read c o)) (put_after res.Equals)
    go (Some x) = refl
    go None = refl

pub id-less : SepLess id_follows
id-less o m h = go (first_as as_module_id o) h
  where
    go : (x : Option (Taken (Placed ℕ))) → put_more x o ≡ Some m → length m ≤ length o
    go (Some x) e = let q : o ≡ m = cc in let r = ap length q in omega arith
    go None e = absurd (cc)

pub id-parts : Parts sig_id_turn read_id id_follows
id-parts i = go (first_as as_module_id i)
  where
    go : (x : Option (Taken (Placed ℕ))) → then_taken x (λ y o. separated (id_follows o) (λ ys. y ∷ ys) (y ∷ []) no_state o) ≡
        then_read (then_taken x (λ y o. read y o)) (λ y o. separated (id_follows o) (λ ys. y ∷ ys) (y ∷ []) no_state o)
    go (Some x) = refl
    go None = refl

-- what `where type` binds

pub and-less : SepLess after_and_type
and-less o m h = go (after_word res.And o) (word-less res.And o) h
  where
    inner : (k : List Terminal) (x : Option (List Terminal)) → on_some x (λ z. Some k) None ≡ Some m → length k ≤ length o → length m ≤ length o
    inner k (Some z) e le = let q : k ≡ m = cc in let r = ap length q in omega arith
    inner k None e le = absurd (cc)

    go : (x : Option (List Terminal)) → ((k : List Terminal) → x ≡ Some k → length k ≤ length o) → and_type x ≡ Some m → length m ≤ length o
    go (Some k) le e = inner k (after_word res.TypeWord k) e (le k refl)
    go None le e = absurd (cc)

abbrev where_is : List Terminal → List Terminal → List Tyvar → Placed LongId → Ty → WhereType
where_is i j as_ c a = record { place = place_at i; tyvars_place = tyvars_place (place_at i) j as_; tyvars = as_; tycon = c; ty = a }

abbrev put_where : WhereType → List Terminal → Answer (Turn (List WhereType) NoState)
put_where w o = separated (after_and_type o) (λ ws. w ∷ ws) (w ∷ []) no_state o

pub where-parts : (n : ℕ) → Parts (where_turn n) (read_where n) after_and_type
where-parts n i = word (after_word res.TypeWord i)
  where
    bound : (j : List Terminal) (as_ : List Tyvar) (c : Placed LongId) (x : Option (List Terminal)) →
        on_some x (λ l. then_read (read_ty n 0 l) (λ a o. put_where (where_is i j as_ c a) o)) bad ≡
        then_read (on_some x (λ l. then_read (read_ty n 0 l) (λ a o. read (where_is i j as_ c a) o)) bad) put_where
    bound j as_ c (Some l) = then-then (read_ty n 0 l) (where_is i j as_ c) put_where
    bound j as_ c None = refl

    con : (j : List Terminal) (as_ : List Tyvar) (x : Option (Taken (Placed LongId))) →
        then_taken x (λ c k. word_then res.Equals (λ l. then_read (read_ty n 0 l) (λ a o. put_where (where_is i j as_ c a) o)) k) ≡
        then_read (then_taken x (λ c k. word_then res.Equals (λ l. then_read (read_ty n 0 l) (λ a o. read (where_is i j as_ c a) o)) k)) put_where
    con j as_ (Some x) = bound j as_ x.it (after_word res.Equals x.rest)
    con j as_ None = refl

    vars : (j : List Terminal) (x : Answer (List Tyvar)) →
        then_read x (λ as_ m. then_taken (first_as as_long_tycon m) (λ c k. word_then res.Equals (λ l. then_read (read_ty n 0 l) (λ a o. put_where (where_is i j as_ c a) o)) k)) ≡
        then_read (then_read x (λ as_ m. then_taken (first_as as_long_tycon m) (λ c k. word_then res.Equals (λ l. then_read (read_ty n 0 l) (λ a o. read (where_is i j as_ c a) o)) k))) put_where
    vars j (ok r) = con j r.tree (first_as as_long_tycon r.rest)
    vars j bad = refl
    vars j deep = refl

    word : (x : Option (List Terminal)) →
        on_some x (λ j. then_read (read_tyvars j) (λ as_ m. then_taken (first_as as_long_tycon m) (λ c k. word_then res.Equals (λ l. then_read (read_ty n 0 l) (λ a o. put_where (where_is i j as_ c a) o)) k))) bad ≡
        then_read (on_some x (λ j. then_read (read_tyvars j) (λ as_ m. then_taken (first_as as_long_tycon m) (λ c k. word_then res.Equals (λ l. then_read (read_ty n 0 l) (λ a o. read (where_is i j as_ c a) o)) k))) bad) put_where
    word (Some j) = vars j (read_tyvars j)
    word None = refl

-- one identifier
pub id-is : (s : Source) (i : List Terminal) (x : ℕ) (o : List Token) → first_as as_module_id i ≡ taken (record { place = place_at i; it = x }) (left s o) → (p : Place) → p ≡ at s.file (place_at i) →
    Gave (λ (y : IdAt) r. IsId s i y 0 o r) (record { place = p; id = x }) (read_id i)
id-is s i x o h p e =
    let l = first-shorter as_module_id i (record { place = place_at i; it = x }) (left s o) h in
    record {
      got = record { tree = record { place = place_at i; it = x }; rest = left s o };
      is = rw h refl;
      same = record { rest = refl; same = rw e refl; depth = refl; fits = omega arith; shorter = l };
    }
