-- Partial expressions and declarations: `Opens f l i d` where some front of the terminals i is an expression of a level of at least l, cut off at
-- its right edge, that is at least d deep. Each phrase of a path along the cut edge is entered by a terminal of its own, or by a complete left part.
use Rattle.std.specs.Prelude.{ℕ, suc, ◌≤◌, ◌<◌, ◌≡◌, Bool, false, List, [], ◌∷◌, Option}
use Rattle.mlc_names.specs.declared.label.Label.{Label}
use Rattle.mlc_names.specs.declared.token.Reserved.TheVariants as res
use Rattle.sml_tree.specs.Terminal.{Terminal, reserved, IsLabel}
use Rattle.sml_tree.specs.declared.ident.Tyvar.{Tyvar}
use Rattle.sml_tree.specs.declared.ident.Vid.{Vid}
use Rattle.sml_tree.specs.Fixity.{Fixity}
use Rattle.sml_tree.specs.ReadTree.{Ty, Pat, Joint, Head, head_vid, head_count, DataBind, Exp, Exps, Decs, Dec, Clauses}
use Rattle.sml_tree.specs.Depth.{depth}
use Rattle.sml_tree.specs.Levels.{after, after_dec, level, goes_on}
use Rattle.sml_tree.specs.Grammar.{MaybeTy, Pattern, ReadsHead, Tyvars, DataBinds, Fits, Atom, Atoms, Reads, Declares, Declare, ReadsClauses}
use Rattle.sml_grammar.specs.Begins.{BeginsAtom, Begins, BeginTyvars}
use Rattle.sml_grammar.specs.PartialTypes.{OpensTy}
use Rattle.sml_grammar.specs.PartialPatterns.{OpensPat, OpensHead}
use Rattle.sml_grammar.specs.PartialBindings.{OpensTypeBinds, OpensDataBinds, OpensExBinds}

-- tyvarseq before bindings: empty only where no type variables begin
pub data TyvarSeq : List Terminal → List Tyvar → List Terminal → Type 0 where
  no_tyvar_here : {o : List Terminal} → (BeginTyvars o → ⊥) → TyvarSeq o [] o
  some_tyvars : {i o : List Terminal} {a : Tyvar} {as_ : List Tyvar} → Tyvars i (a ∷ as_) o → TyvarSeq i (a ∷ as_) o

mutual
  pub data Opens : Fixity → ℕ → List Terminal → ℕ → Type 0 where
    -- what begins it
    begun : {f : Fixity} {l : ℕ} {i : List Terminal} → Begins f l i → Opens f l i 1
    -- an atomic expression
    in_atom : {f : Fixity} {l : ℕ} {i : List Terminal} {d : ℕ} → OpensAtom f i d → Opens f l i d
    -- an application, cut off after what begins its first argument, or in an argument
    applied_to : {f : Fixity} {l : ℕ} {i m : List Terminal} {e : Exp} {d : ℕ} → Atom f i e m → BeginsAtom f m → d ≤ depth e → Opens f l i (suc d)
    in_argument : {f : Fixity} {l : ℕ} {i m n : List Terminal} {e : Exp} {es : Exps} {d : ℕ} → Atom f i e m → Atoms f m es n → OpensAtom f n d →
        Opens f l i (suc d)
    -- a chain, cut off after its first joint, or in an operand
    joined : {f : Fixity} {l k : ℕ} {r : Bool} {i m : List Terminal} {t : Terminal} {j : Joint} {a : Exp} {d : ℕ} →
        l ≤ k → k < level f a → goes_on f a (t ∷ m) ≡ false → Reads f i a (t ∷ m) → Fits f k r t j → d ≤ depth a → Opens f l i (suc d)
    in_chain : {f : Fixity} {l k : ℕ} {r : Bool} {i m : List Terminal} {a : Exp} {d : ℕ} →
        l ≤ k → k < level f a → goes_on f a m ≡ false → Reads f i a m → OpensPart f k r m d → Opens f l i (suc d)
    -- a typed expression, cut off after `:`, or in the type
    marked : {f : Fixity} {l : ℕ} {i m : List Terminal} {a : Exp} {d : ℕ} (p : ℕ) →
        l ≤ 5 → 5 ≤ level f a → goes_on f a (reserved p res.Colon ∷ m) ≡ false → Reads f i a (reserved p res.Colon ∷ m) → d ≤ depth a → Opens f l i (suc d)
    in_typed : {f : Fixity} {l : ℕ} {i m : List Terminal} {a : Exp} {d : ℕ} (p : ℕ) →
        l ≤ 5 → 5 ≤ level f a → goes_on f a (reserved p res.Colon ∷ m) ≡ false → Reads f i a (reserved p res.Colon ∷ m) → OpensTy 0 m d → Opens f l i (suc d)
    -- a handled expression, cut off after `handle`, or in the match
    handled : {f : Fixity} {l : ℕ} {i m : List Terminal} {a : Exp} {d : ℕ} (p : ℕ) →
        l ≤ 0 → goes_on f a (reserved p res.Handle ∷ m) ≡ false → Reads f i a (reserved p res.Handle ∷ m) → d ≤ depth a → Opens f l i (suc d)
    in_handler : {f : Fixity} {l : ℕ} {i m : List Terminal} {a : Exp} {d : ℕ} (p : ℕ) →
        l ≤ 0 → goes_on f a (reserved p res.Handle ∷ m) ≡ false → Reads f i a (reserved p res.Handle ∷ m) → OpensMatch f m d → Opens f l i (suc d)
    -- raise exp
    in_raise : {f : Fixity} {l : ℕ} {i : List Terminal} {d : ℕ} (p : ℕ) → l ≤ 4 → Opens f 0 i d → Opens f l (reserved p res.Raise ∷ i) (suc d)
    -- if exp then exp else exp, cut off in any of the three
    in_condition : {f : Fixity} {l : ℕ} {i : List Terminal} {d : ℕ} (p : ℕ) → l ≤ 4 → Opens f 0 i d → Opens f l (reserved p res.If ∷ i) (suc d)
    in_then : {f : Fixity} {l : ℕ} {i m : List Terminal} {a : Exp} {d : ℕ} (p q : ℕ) → l ≤ 4 → Reads f i a (reserved q res.Then ∷ m) → Opens f 0 m d →
        Opens f l (reserved p res.If ∷ i) (suc d)
    in_else : {f : Fixity} {l : ℕ} {i m n : List Terminal} {a b : Exp} {d : ℕ} (p q r : ℕ) →
        l ≤ 4 → Reads f i a (reserved q res.Then ∷ m) → Reads f m b (reserved r res.Else ∷ n) → Opens f 0 n d → Opens f l (reserved p res.If ∷ i) (suc d)
    -- while exp do exp
    in_while : {f : Fixity} {l : ℕ} {i : List Terminal} {d : ℕ} (p : ℕ) → l ≤ 4 → Opens f 0 i d → Opens f l (reserved p res.While ∷ i) (suc d)
    in_do : {f : Fixity} {l : ℕ} {i m : List Terminal} {a : Exp} {d : ℕ} (p q : ℕ) → l ≤ 4 → Reads f i a (reserved q res.Do ∷ m) → Opens f 0 m d →
        Opens f l (reserved p res.While ∷ i) (suc d)
    -- case exp of match
    in_subject : {f : Fixity} {l : ℕ} {i : List Terminal} {d : ℕ} (p : ℕ) → l ≤ 4 → Opens f 0 i d → Opens f l (reserved p res.Case ∷ i) (suc d)
    in_case : {f : Fixity} {l : ℕ} {i m : List Terminal} {e : Exp} {d : ℕ} (p q : ℕ) → l ≤ 4 → Reads f i e (reserved q res.Of ∷ m) → OpensMatch f m d →
        Opens f l (reserved p res.Case ∷ i) (suc d)
    -- fn match
    in_fn : {f : Fixity} {l : ℕ} {i : List Terminal} {d : ℕ} (p : ℕ) → l ≤ 4 → OpensMatch f i d → Opens f l (reserved p res.Fn ∷ i) (suc d)

  pub data OpensAtom : Fixity → List Terminal → ℕ → Type 0 where
    -- what begins it
    begun_atom : {f : Fixity} {i : List Terminal} → BeginsAtom f i → OpensAtom f i 1
    -- { exprow }
    in_row : {f : Fixity} {i : List Terminal} {d : ℕ} (p : ℕ) → OpensRow f i d → OpensAtom f (reserved p res.LeftBrace ∷ i) (suc d)
    -- (exp, which a tuple or a sequence may go on with
    in_paren : {f : Fixity} {i : List Terminal} {d : ℕ} (p : ℕ) → Opens f 0 i d → OpensAtom f (reserved p res.LeftParen ∷ i) (suc d)
    -- (exp, .., exp)
    in_tuple : {f : Fixity} {i m : List Terminal} {e : Exp} {d : ℕ} (p q : ℕ) → Reads f i e (reserved q res.Comma ∷ m) → OpensCommas f m d →
        OpensAtom f (reserved p res.LeftParen ∷ i) (suc d)
    -- (exp; ..; exp)
    in_sequence : {f : Fixity} {i m : List Terminal} {e : Exp} {d : ℕ} (p q : ℕ) → Reads f i e (reserved q res.Semicolon ∷ m) → OpensSemicolons f m d →
        OpensAtom f (reserved p res.LeftParen ∷ i) (suc d)
    -- [exp, .., exp]
    in_list : {f : Fixity} {i : List Terminal} {d : ℕ} (p : ℕ) → OpensCommas f i d → OpensAtom f (reserved p res.LeftBracket ∷ i) (suc d)
    -- let dec in exp; ..; exp end, cut off in the declarations or after `in`
    in_decs : {f : Fixity} {i : List Terminal} {d : ℕ} (p : ℕ) → OpensDecs f i d → OpensAtom f (reserved p res.Let ∷ i) (suc d)
    in_body : {f : Fixity} {i m : List Terminal} {ds : Decs} {d : ℕ} (p q : ℕ) → Declares f i ds (reserved q res.In ∷ m) → OpensSemicolons (after f ds) m d →
        OpensAtom f (reserved p res.Let ∷ i) (suc d)

  -- exprow ::= lab = exp [, exprow]: the field that is cut off may have whole ones before it
  pub data OpensRow : Fixity → List Terminal → ℕ → Type 0 where
    in_field : {f : Fixity} {t : Terminal} {i : List Terminal} {l : Label} {d : ℕ} (p : ℕ) → IsLabel t l → Opens f 0 i d →
        OpensRow f (t ∷ reserved p res.Equals ∷ i) d
    past_field : {f : Fixity} {t : Terminal} {i m : List Terminal} {l : Label} {e : Exp} {d : ℕ} (p q : ℕ) → IsLabel t l →
        Reads f i e (reserved q res.Comma ∷ m) → OpensRow f m d →
        OpensRow f (t ∷ reserved p res.Equals ∷ i) d

  -- exp, .., exp
  pub data OpensCommas : Fixity → List Terminal → ℕ → Type 0 where
    in_comma : {f : Fixity} {i : List Terminal} {d : ℕ} → Opens f 0 i d → OpensCommas f i d
    past_comma : {f : Fixity} {i m : List Terminal} {e : Exp} {d : ℕ} (q : ℕ) → Reads f i e (reserved q res.Comma ∷ m) → OpensCommas f m d → OpensCommas f i d

  -- exp; ..; exp
  pub data OpensSemicolons : Fixity → List Terminal → ℕ → Type 0 where
    in_semicolon : {f : Fixity} {i : List Terminal} {d : ℕ} → Opens f 0 i d → OpensSemicolons f i d
    past_semicolon : {f : Fixity} {i m : List Terminal} {e : Exp} {d : ℕ} (q : ℕ) → Reads f i e (reserved q res.Semicolon ∷ m) → OpensSemicolons f m d →
        OpensSemicolons f i d

  -- the further operands of a chain of level l that associates as r says
  pub data OpensPart : Fixity → ℕ → Bool → List Terminal → ℕ → Type 0 where
    in_part : {f : Fixity} {l : ℕ} {r : Bool} {t : Terminal} {j : Joint} {m : List Terminal} {d : ℕ} → Fits f l r t j → Opens f (suc l) m d →
        OpensPart f l r (t ∷ m) d
    past_part : {f : Fixity} {l : ℕ} {r : Bool} {t : Terminal} {j : Joint} {m n : List Terminal} {b : Exp} {d : ℕ} →
        Fits f l r t j → l < level f b → goes_on f b n ≡ false → Reads f m b n → OpensPart f l r n d → OpensPart f l r (t ∷ m) d

  -- match ::= pat => exp [| match]
  pub data OpensMatch : Fixity → List Terminal → ℕ → Type 0 where
    in_rule_pat : {f : Fixity} {i : List Terminal} {d : ℕ} → OpensPat f 0 i d → OpensMatch f i d
    in_rule : {f : Fixity} {i m : List Terminal} {a : Pat} {d : ℕ} (p : ℕ) → Pattern f i a (reserved p res.DoubleArrow ∷ m) → Opens f 0 m d → OpensMatch f i d
    past_rule : {f : Fixity} {i m n : List Terminal} {a : Pat} {e : Exp} {d : ℕ} (p q : ℕ) → Pattern f i a (reserved p res.DoubleArrow ∷ m) →
        goes_on f e (reserved q res.Bar ∷ n) ≡ false → Reads f m e (reserved q res.Bar ∷ n) → OpensMatch f n d → OpensMatch f i d

  -- dec ::= empty | dec [;] dec
  pub data OpensDecs : Fixity → List Terminal → ℕ → Type 0 where
    past_empty : {f : Fixity} {i : List Terminal} {d : ℕ} (p : ℕ) → OpensDecs f i d → OpensDecs f (reserved p res.Semicolon ∷ i) d
    in_dec : {f : Fixity} {i : List Terminal} {d : ℕ} → OpensDec f i d → OpensDecs f i d
    past_dec : {f : Fixity} {i m : List Terminal} {x : Dec} {d : ℕ} → Declare f i x m → OpensDecs (after_dec f x) m d → OpensDecs f i d

  -- a declaration that isn't `local` isn't counted itself
  pub data OpensDec : Fixity → List Terminal → ℕ → Type 0 where
    -- val tyvarseq valbind
    in_val : {f : Fixity} {i m : List Terminal} {as_ : List Tyvar} {d : ℕ} (p : ℕ) → TyvarSeq i as_ m → OpensBinds f m d → OpensDec f (reserved p res.Val ∷ i) d
    -- fun tyvarseq fvalbind
    in_fun : {f : Fixity} {i m : List Terminal} {as_ : List Tyvar} {d : ℕ} (p : ℕ) → TyvarSeq i as_ m → OpensFuns f m d → OpensDec f (reserved p res.Fun ∷ i) d
    -- type typbind
    in_type : {f : Fixity} {i : List Terminal} {d : ℕ} (p : ℕ) → OpensTypeBinds i d → OpensDec f (reserved p res.TypeWord ∷ i) d
    -- datatype datbind [withtype typbind]
    in_datatype : {f : Fixity} {i : List Terminal} {d : ℕ} (p : ℕ) → OpensDataBinds f i d → OpensDec f (reserved p res.Datatype ∷ i) d
    in_withtype : {f : Fixity} {i m : List Terminal} {bs : List DataBind} {d : ℕ} (p q : ℕ) → DataBinds f i bs (reserved q res.Withtype ∷ m) →
        OpensTypeBinds m d → OpensDec f (reserved p res.Datatype ∷ i) d
    -- exception exbind
    in_exception : {f : Fixity} {i : List Terminal} {d : ℕ} (p : ℕ) → OpensExBinds f i d → OpensDec f (reserved p res.Exception ∷ i) d
    -- local dec in dec end, which counts as one
    begun_local : {f : Fixity} {i : List Terminal} (p : ℕ) → OpensDec f (reserved p res.Local ∷ i) 1
    in_local : {f : Fixity} {i : List Terminal} {d : ℕ} (p : ℕ) → OpensDecs f i d → OpensDec f (reserved p res.Local ∷ i) (suc d)
    in_local_body : {f : Fixity} {i m : List Terminal} {ds : Decs} {d : ℕ} (p q : ℕ) → Declares f i ds (reserved q res.In ∷ m) → OpensDecs (after f ds) m d →
        OpensDec f (reserved p res.Local ∷ i) (suc d)

  -- valbind ::= pat = exp [and valbind] | rec valbind
  pub data OpensBinds : Fixity → List Terminal → ℕ → Type 0 where
    past_rec : {f : Fixity} {i : List Terminal} {d : ℕ} (p : ℕ) → OpensBinds f i d → OpensBinds f (reserved p res.Rec ∷ i) d
    in_bind_pat : {f : Fixity} {i : List Terminal} {d : ℕ} → OpensPat f 0 i d → OpensBinds f i d
    in_bind : {f : Fixity} {i m : List Terminal} {a : Pat} {d : ℕ} (p : ℕ) → Pattern f i a (reserved p res.Equals ∷ m) → Opens f 0 m d → OpensBinds f i d
    past_bind : {f : Fixity} {i m n : List Terminal} {a : Pat} {e : Exp} {d : ℕ} (p q : ℕ) → Pattern f i a (reserved p res.Equals ∷ m) →
        Reads f m e (reserved q res.And ∷ n) → OpensBinds f n d → OpensBinds f i d

  -- fvalbind ::= fun1 [and fvalbind]
  pub data OpensFuns : Fixity → List Terminal → ℕ → Type 0 where
    in_clauses : {f : Fixity} {i : List Terminal} {d : ℕ} (v : Vid) (n : ℕ) → OpensClauses f v n i d → OpensFuns f i d
    past_clauses : {f : Fixity} {i m : List Terminal} {cs : Clauses} {d : ℕ} (v : Vid) (n p : ℕ) → ReadsClauses f v n i cs (reserved p res.And ∷ m) →
        OpensFuns f m d → OpensFuns f i d

  -- fun1 ::= head [: ty] = exp [| fun1]: complete heads have the name v and n patterns
  pub data OpensClauses : Fixity → Vid → ℕ → List Terminal → ℕ → Type 0 where
    in_head : {f : Fixity} {v : Vid} {n : ℕ} {i : List Terminal} {d : ℕ} → OpensHead f i d → OpensClauses f v n i d
    in_result : {f : Fixity} {v : Vid} {n : ℕ} {i m : List Terminal} {h : Head} {d : ℕ} (p : ℕ) →
        ReadsHead f i h (reserved p res.Colon ∷ m) → head_vid h ≡ v → head_count h ≡ n → OpensTy 0 m d → OpensClauses f v n i d
    in_clause : {f : Fixity} {v : Vid} {n : ℕ} {i m k : List Terminal} {h : Head} {t : Option Ty} {d : ℕ} (p : ℕ) →
        ReadsHead f i h m → head_vid h ≡ v → head_count h ≡ n → MaybeTy m t (reserved p res.Equals ∷ k) → Opens f 0 k d → OpensClauses f v n i d
    past_clause : {f : Fixity} {v : Vid} {n : ℕ} {i m k g : List Terminal} {h : Head} {t : Option Ty} {e : Exp} {d : ℕ} (p q : ℕ) →
        ReadsHead f i h m → head_vid h ≡ v → head_count h ≡ n → MaybeTy m t (reserved p res.Equals ∷ k) →
        goes_on f e (reserved q res.Bar ∷ g) ≡ false → Reads f k e (reserved q res.Bar ∷ g) → OpensClauses f v n g d → OpensClauses f v n i d
