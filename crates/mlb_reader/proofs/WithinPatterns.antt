-- Places and names of patterns that were read.
use Rattle.std.proofs.Common.{ℕ, List, [], ◌∷◌, Bool, Option, Some, None}
use Rattle.std.specs.List.{AllByRecursion}
use Rattle.mlc_base.specs.declared.place.Place.{Place}
use Rattle.sml_tree.specs.Terminal.{Terminal}
use Rattle.sml_tree.specs.Fixity.{Fixity}
use Rattle.sml_tree.specs.BareTree as bare
use Rattle.sml_tree.specs.Derived.{list_pat_of, pun, VidAt, join_pats}
use Rattle.sml_tree.specs.Bare.{at, bare_pat, bare_pat_fields, bare_some, pat_list, pat_operands, head_pats}
use Rattle.sml_tree.specs.ReadTree.{Pat, Pats, PatFields, no_pat_fields, PatField, pat_field, PatParts, Head, head_vid, head_vid_place, head_place, pat_place}
use Rattle.sml_tree.specs.Grammar.{AtPat, of_wild, of_pat_constant, of_pat_vid, of_no_pat_row, of_pat_row, of_unit_pat, of_tuple_pat, of_nil_pat, of_list_pat, of_paren_pat, PatRow, row_dots, last_row, more_row, Field, of_labelled, of_punned, of_punned_as, PatCommas, last_pat, more_pats, Pattern, of_atpat, of_con_pat, of_chain_pat, of_typed_pat, of_as_pat, PatFollows, of_last_pat_part, of_pat_part, AtPats, no_atpats, more_atpats, ReadsHead, of_prefix_head, of_infix_head, of_bracket_head}
use Rattle.mlb_reader.specs.Within.{VidIn, PatIn, PatFieldsIn}
use Rattle.mlb_reader.proofs.WithinTerminals.{AllGood, IsGoodVid, vid-good, constant-place, names-good, binds-good}
use Rattle.mlb_reader.proofs.WithinRests.{ty-rest, maybe_ty-rest}
use Rattle.mlb_reader.proofs.WithinForms.{ArePats, tuple_pat-in}
use Rattle.mlb_reader.proofs.WithinChains.{IsGoodOperand, chain-good}

module _ (file : ℕ) (P : Place → Type 0) (N : ℕ → Type 0) where
  abbrev Good : List Terminal → Type 0
  Good = AllGood file P N

  abbrev IsGoodPat : bare.Pat → Type 0
  IsGoodPat = PatIn P N

  abbrev IsGoodJoint : VidAt → Type 0
  IsGoodJoint v = P v.place × VidIn P N v.vid

  abbrev AreGoodOperands : PatParts → Type 0
  AreGoodOperands ps = AllByRecursion (IsGoodOperand P IsGoodJoint IsGoodPat) (pat_operands file ps)

  -- a field before others
  abbrev IsGoodField : PatField → Type 0
  IsGoodField a = (fs : PatFields) → PatFieldsIn P N (bare_pat_fields file fs) → PatFieldsIn P N (bare_pat_fields file (pat_field a fs))

  pub record PatGood (a : Pat) (o : List Terminal) : Type 0 where
    pub place : P (at file (pat_place a))
    pub within : PatIn P N (bare_pat file a)
    pub rest : AllGood file P N o

  list-good : (p : Place) (as_ : List bare.Pat) → P p → ArePats P N as_ → IsGoodPat (list_pat_of p as_)
  list-good p [] h gs = h
  list-good p (a ∷ as_) h gs = (h, tuple_pat-in P N p (a ∷ list_pat_of p as_ ∷ []) h (gs.0, (list-good p as_ h gs.1, tt)))

  pun-good : (p : Place) (x : ℕ) (s : Option bare.Ty) → P p → N x → IsGoodPat (pun p x s)
  pun-good p x None h n = (h, n)
  pun-good p x (Some t) h n = (h, (h, n))

  join-good : (v : VidAt) (p : Place) (a b : bare.Pat) → P p → IsGoodJoint v → IsGoodPat a → IsGoodPat b → IsGoodPat (join_pats v p a b)
  join-good v p a b h gv ga gb = (h, gv.0, gv.1, tuple_pat-in P N p (a ∷ b ∷ []) h (ga, (gb, tt)))

  mutual
    at_pat-good : {f : Fixity} {i o : List Terminal} {a : Pat} → AtPat f i a o → Good i → PatGood a o
    at_pat-good (of_wild p) g = record { place = g.0.0; within = g.0.0; rest = g.1 }
    at_pat-good (of_pat_constant c) g = let h = constant-place file P N c g.0 in record { place = h; within = h; rest = g.1 }
    at_pat-good (of_pat_vid x) g = let h = names-good file P N x g in record { place = h.place; within = h.own; rest = h.rest }
    at_pat-good (of_no_pat_row p q) g = record { place = g.0.0; within = (g.0.0, tt); rest = g.1.1 }
    at_pat-good (of_pat_row p q d) g = let h = pat_row-good d g.1 in record { place = g.0.0; within = (g.0.0, h.0); rest = h.1.1 }
    at_pat-good (of_unit_pat p q) g = record { place = g.0.0; within = (g.0.0, tt); rest = g.1.1 }
    at_pat-good (of_tuple_pat {a} {as_} p q r d ds) g =
        let h = pat-good d g.1 in
        let k = pat_commas-good ds h.rest.1 in
        record { place = g.0.0; within = tuple_pat-in P N (at file p) (bare_pat file a ∷ pat_list file as_) g.0.0 (h.within, k.0); rest = k.1.1 }
    at_pat-good (of_nil_pat p q) g = record { place = g.0.0; within = g.0.0; rest = g.1.1 }
    at_pat-good (of_list_pat {as_} p q ds) g = let k = pat_commas-good ds g.1 in record { place = g.0.0; within = list-good (at file p) (pat_list file as_) g.0.0 k.0; rest = k.1.1 }
    at_pat-good (of_paren_pat p q d) g = let h = pat-good d g.1 in record { place = g.0.0; within = h.within; rest = h.rest.1 }

    pat_row-good : {f : Fixity} {i o : List Terminal} {fs : PatFields} {b : Bool} → PatRow f i fs b o → Good i → PatFieldsIn P N (bare_pat_fields file fs) × Good o
    pat_row-good (row_dots p) g = (tt, g.1)
    pat_row-good (last_row d) g = let h = field-good d g in (h.0 no_pat_fields tt, h.1)
    pat_row-good (more_row {fs} p d ds) g = let h = field-good d g in let k = pat_row-good ds h.1.1 in (h.0 fs k.0, k.1)

    field-good : {f : Fixity} {i o : List Terminal} {a : PatField} → Field f i a o → Good i → IsGoodField a × Good o
    field-good (of_labelled p l d) g = let h = pat-good d g.1.1 in ((λ fs k. (h.within, k)), h.rest)
    field-good (of_punned {p} {x} {s} v e t) g = let h = vid-good file P N v g.0 in ((λ fs k. (pun-good (at file p) x (bare_some file s) h.0 h.1, k)), maybe_ty-rest _ t g.1)
    field-good (of_punned_as q v e s d) g =
        let h = vid-good file P N v g.0 in
        let m = pat-good d (maybe_ty-rest _ s g.1).1 in
        ((λ fs k. ((h.0, h.1, m.within), k)), m.rest)

    pat_commas-good : {f : Fixity} {i o : List Terminal} {as_ : Pats} → PatCommas f i as_ o → Good i → ArePats P N (pat_list file as_) × Good o
    pat_commas-good (last_pat d) g = let h = pat-good d g in ((h.within, tt), h.rest)
    pat_commas-good (more_pats p d ds) g = let h = pat-good d g in let k = pat_commas-good ds h.rest.1 in ((h.within, k.0), k.1)

    pub pat-good : {f : Fixity} {i o : List Terminal} {a : Pat} → Pattern f i a o → AllGood file P N i → PatGood a o
    pat-good (of_atpat d) g = at_pat-good d g
    pat-good (of_con_pat x d) g = let h = names-good file P N x g in let k = at_pat-good d h.rest in record { place = h.place; within = (h.place, h.own.0, h.own.1, k.within); rest = k.rest }
    pat-good (of_chain_pat {a} {ps} l r lt d fs) g =
        let h = pat-good d g in
        let k = pat_follows-good fs h.rest in
        record { place = h.place; within = chain-good P IsGoodJoint IsGoodPat join_pats join-good r (at file (pat_place a)) (bare_pat file a) (pat_operands file ps) h.place h.within k.0; rest = k.1 }
    pat-good (of_typed_pat p five d s) g = let h = pat-good d g in record { place = h.place; within = (h.place, h.within); rest = ty-rest _ s h.rest.1 }
    pat-good (of_as_pat q v s d) g =
        let h = binds-good file P N v g in
        let k = pat-good d (maybe_ty-rest _ s h.rest).1 in
        record { place = h.place; within = (h.own.0, h.own.1, k.within); rest = k.rest }

    pat_follows-good : {f : Fixity} {l : ℕ} {r : Bool} {i o : List Terminal} {ps : PatParts} → PatFollows f l r i ps o → Good i → AreGoodOperands ps × Good o
    pat_follows-good (of_last_pat_part fit lt d) g = let h = pat-good d g.1 in (((h.place, vid-good file P N fit.is.is g.0, h.within), tt), h.rest)
    pat_follows-good (of_pat_part fit lt d fs) g = let h = pat-good d g.1 in let k = pat_follows-good fs h.rest in (((h.place, vid-good file P N fit.is.is g.0, h.within), k.0), k.1)

  at_pats-good : {f : Fixity} {i o : List Terminal} {as_ : Pats} → AtPats f i as_ o → Good i → ArePats P N (pat_list file as_) × Good o
  at_pats-good no_atpats g = (tt, g)
  at_pats-good (more_atpats d ds) g = let h = at_pat-good d g in let k = at_pats-good ds h.rest in ((h.within, k.0), k.1)

  -- a head of a clause: where it begins, its name and its patterns
  pub record HeadGood (h : Head) (o : List Terminal) : Type 0 where
    pub place : P (at file (head_place h))
    pub own : IsGoodVid file P N (head_vid_place h) (head_vid h)
    pub pats : ArePats P N (head_pats file h)
    pub rest : AllGood file P N o

  pub head-good : {f : Fixity} {i o : List Terminal} {h : Head} → ReadsHead f i h o → AllGood file P N i → HeadGood h o
  head-good (of_prefix_head v d ds) g =
      let h = binds-good file P N v g in
      let k = at_pat-good d h.rest in
      let m = at_pats-good ds k.rest in
      record { place = h.place; own = h.own; pats = (k.within, m.0); rest = m.1 }
  head-good (of_infix_head {a} {b} d v e) g =
      let h = at_pat-good d g in
      let k = at_pat-good e h.rest.1 in
      record { place = h.place; own = vid-good file P N v.is h.rest.0; pats = (tuple_pat-in P N (at file (pat_place a)) (bare_pat file a ∷ bare_pat file b ∷ []) h.place (h.within, (k.within, tt)), tt); rest = k.rest }
  head-good (of_bracket_head {a} {b} p q d v e ds) g =
      let h = at_pat-good d g.1 in
      let k = at_pat-good e h.rest.1 in
      let m = at_pats-good ds k.rest.1 in
      record { place = g.0.0; own = vid-good file P N v.is h.rest.0; pats = (tuple_pat-in P N (at file p) (bare_pat file a ∷ bare_pat file b ∷ []) g.0.0 (h.within, (k.within, tt)), m.0); rest = m.1 }
