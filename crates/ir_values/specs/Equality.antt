-- Equality of two values at a type: of all parts; of references by identity. Functions and packets have none, nor have values of other types, nor has what has
-- such a part, wherever it stands and whatever the others are.
use Rattle.std.specs.Prelude.{ℕ, Bool, true, false, Option, Some, None, option_map, option_and_then, nat_eq, if◌then◌else◌, ◌&&◌}
use Rattle.mlc_prims.specs.Table.{literal_eq}
use Rattle.ir_values.specs.Tags.{Tagging}
use Rattle.ir_values.specs.Values.{Value, literal, record_of, con, con_of, exn, exn_of, ref, address, cell, primitive, closure, Fields, no_fields, field, literal_in, address_in, field_in}

-- the answer for two parts: both have one, and both say yes
abbrev pub both_equal : Option Bool → Option Bool → Option Bool
both_equal None more = None
both_equal (Some b) more = option_map (λ c. b && c) more

abbrev pub where_holds : {A : Type 0} → Bool → Option A → Option A
where_holds b o = if b then o else None

abbrev pub if_equal : Bool → Option Bool → Option Bool
if_equal b o = if b then o else Some false

-- a constructor and its argument, if it has one
pub record Constructed (V : Type 0) : Type 0 where
  pub number : ℕ
  pub argument : Option V

module _ (K : Tagging) {B C : Type 0} where
  -- a record, or a constructor, that was made at g
  abbrev pub fields_at : K.Tag → Value B C K.Tag → Option (Fields B C K.Tag)
  fields_at g (record_of h fs) = where_holds (K.same g h) (Some fs)
  fields_at g v = None

  abbrev pub con_at : K.Tag → Value B C K.Tag → Option (Constructed (Value B C K.Tag))
  con_at g (con h c) = where_holds (K.same g h) (Some (record { number = c; argument = None }))
  con_at g (con_of h c v) = where_holds (K.same g h) (Some (record { number = c; argument = Some v }))
  con_at g v = None

  -- a part with one that may be there, at the type that the part has, if it has one
  abbrev pub same_part : (K.Tag → Value B C K.Tag → Option Bool) → Option K.Tag → Option (Value B C K.Tag) → Option Bool
  same_part test g w = option_and_then (λ h. option_and_then (test h) w) g

  abbrev mutual
    pub same_at : K.Tag → Value B C K.Tag → Value B C K.Tag → Option Bool
    same_at g (literal l) w = where_holds (K.has_literal g l) (option_and_then (literal_eq l) (literal_in w))
    same_at g (record_of h fs) w = where_holds (K.same g h) (option_and_then (same_fields g fs) (fields_at g w))
    same_at g (con h c) w = where_holds (K.same g h) (option_map (λ d. nat_eq c d.number) (con_at g w))
    same_at g (con_of h c v) w =
        where_holds (K.same g h) (option_and_then (λ d. if_equal (nat_eq c d.number) (same_part (λ a. same_at a v) (K.argument g c) d.argument)) (con_at g w))
    same_at g (exn h n) w = None
    same_at g (exn_of h n v) w = None
    same_at g (ref h) w = None
    same_at g (address a) w = where_holds (K.has_references g) (option_map (nat_eq a) (address_in w))
    same_at g (cell h v) w = None
    same_at g (primitive h p) w = None
    same_at g (closure c env) w = None

    pub same_fields : K.Tag → Fields B C K.Tag → Fields B C K.Tag → Option Bool
    same_fields g no_fields gs = Some true
    same_fields g (field l v fs) gs = both_equal (same_part (λ a. same_at a v) (K.field g l) (field_in l gs)) (same_fields g fs gs)
