-- Related values are equal to others where those that they are related to are.
use Rattle.std.proofs.Common.{◌≡◌, ℕ, suc, Bool, true, false, Option, Some, None, if◌then◌else◌, nat_eq, option_map, option_and_then, refl, ap}
use Rattle.mlc_runs.specs.Agreement.{BothOrNeither, neither, both}
use Rattle.mlc_runs.specs.of_mlc_names.declared.label.Label.{Label}
use Rattle.mlc_prims.specs.Table.{literal_eq}
use Rattle.ir_values.specs.Tags.{Tagging}
use Rattle.ir_values.specs.Values.{Value, literal, record_of, con, con_of, exn, exn_of, ref, address, cell, primitive, closure, Fields, no_fields, field, same_label, field_in, count, literal_in, address_in, packet_name}
use Rattle.ir_values.specs.Equality.{both_equal, where_holds, Constructed, fields_at, con_at, same_part, same_at, same_fields}
use Rattle.ir_values.specs.Related.{SameFields, same_none, same_more, literals_alike, records_alike, con_alike, con_of_alike, exn_alike, exn_of_alike, ref_alike, address_alike, cell_alike, primitive_alike, AreOfOneKind, alike, functions, IsByKind}

pub if-both : {V W : Type 0} (R : V → W → Type 0) {v : V} {w : W} {o : Option V} {q : Option W} (b : Bool) → R v w → BothOrNeither R o q → BothOrNeither R (if b then Some v else o) (if b then Some w else q)
if-both R true r h = both r
if-both R false r h = h

pub and_then-same : {V W A : Type 0} (R : V → W → Type 0) {o : Option V} {q : Option W} {f : V → Option A} {g : W → Option A} → BothOrNeither R o q → ((v : V) (w : W) → R v w → g w ≡ f v) → option_and_then g q ≡ option_and_then f o
and_then-same R neither h = refl
and_then-same R (both r) h = h _ _ r

both-same : {a b c d : Option Bool} → b ≡ a → d ≡ c → both_equal b d ≡ both_equal a c
both-same e h = rw (e, h) refl

where-both : {V W : Type 0} (R : V → W → Type 0) {o : Option V} {q : Option W} (b : Bool) → BothOrNeither R o q → BothOrNeither R (where_holds b o) (where_holds b q)
where-both R true h = h
where-both R false h = neither

module _ {B C D E T : Type 0} (R : Value B C T → Value D E T → Type 0) where
  pub field-same : (l : Label) {fs : Fields B C T} {gs : Fields D E T} → SameFields R fs gs → BothOrNeither R (field_in l fs) (field_in l gs)
  field-same l same_none = neither
  field-same l (same_more k r rs) = if-both R (same_label l k) r (field-same l rs)

  pub count-same : {fs : Fields B C T} {gs : Fields D E T} → SameFields R fs gs → count gs ≡ count fs
  count-same same_none = refl
  count-same (same_more k r rs) = ap suc (count-same rs)

  pub literal-alike : {v : Value B C T} {w : Value D E T} → AreOfOneKind R v w → literal_in w ≡ literal_in v
  literal-alike (alike (literals_alike l)) = refl
  literal-alike (alike a) = refl
  literal-alike (functions c d e e') = refl

  pub address-alike' : {v : Value B C T} {w : Value D E T} → AreOfOneKind R v w → address_in w ≡ address_in v
  address-alike' (alike (address_alike a)) = refl
  address-alike' (alike a) = refl
  address-alike' (functions c d e e') = refl

  pub packet-alike : {v : Value B C T} {w : Value D E T} → AreOfOneKind R v w → packet_name w ≡ packet_name v
  packet-alike (alike (exn_alike g n)) = refl
  packet-alike (alike (exn_of_alike g n r)) = refl
  packet-alike (alike a) = refl
  packet-alike (functions c d e e') = refl

  -- constructions of one constructor
  pub record SameConstructed (v : Constructed (Value B C T)) (w : Constructed (Value D E T)) : Type 0 where
    pub number : w.number ≡ v.number
    pub argument : BothOrNeither R v.argument w.argument

module _ (K : Tagging) {B C D E : Type 0} (R : Value B C K.Tag → Value D E K.Tag → Type 0) (by : IsByKind R) where
  fields-alike : (g : K.Tag) {v : Value B C K.Tag} {w : Value D E K.Tag} → AreOfOneKind R v w → BothOrNeither (SameFields R) (fields_at K g v) (fields_at K g w)
  fields-alike g (alike (records_alike h fs)) = where-both (SameFields R) (K.same g h) (both fs)
  fields-alike g (alike a) = neither
  fields-alike g (functions c d e e') = neither

  con-alike : (g : K.Tag) {v : Value B C K.Tag} {w : Value D E K.Tag} → AreOfOneKind R v w → BothOrNeither (SameConstructed R) (con_at K g v) (con_at K g w)
  con-alike g (alike (con_alike h c)) = where-both (SameConstructed R) (K.same g h) (both (record { number = refl; argument = neither }))
  con-alike g (alike (con_of_alike h c r)) = where-both (SameConstructed R) (K.same g h) (both (record { number = refl; argument = both r }))
  con-alike g (alike a) = neither
  con-alike g (functions c d e e') = neither

  -- a part of one and of the other, against related values that may be there
  part-same : {test : K.Tag → Value B C K.Tag → Option Bool} {test' : K.Tag → Value D E K.Tag → Option Bool} {o : Option (Value B C K.Tag)} {q : Option (Value D E K.Tag)} (g : Option K.Tag)
      → ((h : K.Tag) (v : Value B C K.Tag) (w : Value D E K.Tag) → R v w → test' h w ≡ test h v) → BothOrNeither R o q → same_part K test' g q ≡ same_part K test g o
  part-same None h k = refl
  part-same (Some a) h k = and_then-same R k (λ v w r. h a v w r)

  number-same : (c : ℕ) {v : Constructed (Value B C K.Tag)} {w : Constructed (Value D E K.Tag)} {o o' : Option Bool} → SameConstructed R v w → o' ≡ o → (if nat_eq c w.number then o' else Some false) ≡ (if nat_eq c v.number then o else Some false)
  number-same c s e = rw (s.number, e) refl

  numbers-same : (c : ℕ) {o : Option (Constructed (Value B C K.Tag))} {q : Option (Constructed (Value D E K.Tag))} → BothOrNeither (SameConstructed R) o q → option_map (λ d. nat_eq c d.number) q ≡ option_map (λ d. nat_eq c d.number) o
  numbers-same c neither = refl
  numbers-same c (both s) = ap (λ n. Some (nat_eq c n)) s.number

  mutual
    pub same-kind : (g : K.Tag) (v : Value B C K.Tag) {w : Value D E K.Tag} {u : Value B C K.Tag} {z : Value D E K.Tag} → AreOfOneKind R v w → R u z → same_at K g w z ≡ same_at K g v u
    same-kind g (literal l) (alike (literals_alike _)) q = ap (λ o. where_holds (K.has_literal g l) (option_and_then (literal_eq l) o)) (literal-alike R (by.kind _ _ q))
    same-kind g (record_of h fs) (alike (records_alike _ rs)) q = ap (where_holds (K.same g h)) (and_then-same (SameFields R) (fields-alike g (by.kind _ _ q)) (λ gs gs' ss. same-rows g fs rs ss))
    same-kind g (con h c) (alike (con_alike _ _)) q = ap (where_holds (K.same g h)) (numbers-same c (con-alike g (by.kind _ _ q)))
    same-kind g (con_of h c v) (alike (con_of_alike _ _ r)) q =
        ap (where_holds (K.same g h)) (and_then-same (SameConstructed R) (con-alike g (by.kind _ _ q)) (λ d d' s. number-same c s (part-same (K.argument g c) (λ a y x k. same-kind a v (by.kind _ _ r) k) s.argument)))
    same-kind g (exn h n) (alike (exn_alike _ _)) q = refl
    same-kind g (exn_of h n v) (alike (exn_of_alike _ _ r)) q = refl
    same-kind g (ref h) (alike (ref_alike _)) q = refl
    same-kind g (address a) (alike (address_alike _)) q = ap (λ o. where_holds (K.has_references g) (option_map (nat_eq a) o)) (address-alike' R (by.kind _ _ q))
    same-kind g (cell h v) (alike (cell_alike _ r)) q = refl
    same-kind g (primitive h p) (alike (primitive_alike _ _)) q = refl
    same-kind g (closure c e) (functions _ _ _ _) q = refl
    same-kind g (closure c e) (alike a) q = elim a [ ]

    same-rows : (g : K.Tag) (fs : Fields B C K.Tag) {fs' : Fields D E K.Tag} {gs : Fields B C K.Tag} {gs' : Fields D E K.Tag} → SameFields R fs fs' → SameFields R gs gs' → same_fields K g fs' gs' ≡ same_fields K g fs gs
    same-rows g no_fields same_none q = refl
    same-rows g (field l v fs) (same_more _ r rs) q = both-same (part-same (K.field g l) (λ a y x k. same-kind a v (by.kind _ _ r) k) (field-same R l q)) (same-rows g fs rs q)

  pub same-same : (g : K.Tag) {v : Value B C K.Tag} {w : Value D E K.Tag} {u : Value B C K.Tag} {z : Value D E K.Tag} → R v w → R u z → same_at K g w z ≡ same_at K g v u
  same-same g {v} r q = same-kind g v (by.kind _ _ r) q
