-- Partial patterns and heads of clauses: `OpensPat f l i d` where some front of the terminals i is a pattern of a level of at least l, cut off at
-- its right edge, that is at least d deep.
use Rattle.std.specs.Prelude.{ℕ, suc, ◌≤◌, ◌<◌, ◌≡◌, Bool, List, ◌∷◌, Option, None}
use Rattle.mlc_names.specs.declared.label.Label.{Label}
use Rattle.mlc_names.specs.declared.token.Reserved.TheVariants as res
use Rattle.sml_tree.specs.Terminal.{LongVid, Terminal, reserved, IsVid, IsLabel}
use Rattle.sml_tree.specs.declared.ident.Vid.{Vid}
use Rattle.sml_tree.specs.declared.ident.Vid.TheVariants.{Named}
use Rattle.sml_tree.specs.Fixity.{Fixity, fix_of}
use Rattle.sml_tree.specs.ReadTree.{Placed, Ty, Pat, PatField}
use Rattle.sml_tree.specs.Depth.{depth_pat}
use Rattle.sml_tree.specs.Levels.{pat_level}
use Rattle.sml_tree.specs.Grammar.{MaybeTy, BindsVid, NamesVid, IsInfixVid, PatFits, AtPat, Pattern, Field}
use Rattle.sml_grammar.specs.Begins.{BeginsPat}
use Rattle.sml_grammar.specs.PartialTypes.{OpensTy}

mutual
  pub data OpensPat : Fixity → ℕ → List Terminal → ℕ → Type 0 where
    -- what begins it
    begun_pat : {f : Fixity} {l : ℕ} {i : List Terminal} → BeginsPat f i → OpensPat f l i 1
    -- an atomic pattern
    in_atpat : {f : Fixity} {l : ℕ} {i : List Terminal} {d : ℕ} → OpensAtPat f i d → OpensPat f l i d
    -- [op] longvid atpat
    in_con_pat : {f : Fixity} {l : ℕ} {i m : List Terminal} {p : ℕ} {x : Placed LongVid} {d : ℕ} → NamesVid f i p x m → OpensAtPat f m d
        → OpensPat f l i (suc d)
    -- a chain, cut off after its first joint, or in an operand
    joined_pat : {f : Fixity} {l k : ℕ} {r : Bool} {i m : List Terminal} {t : Terminal} {x : Placed ℕ} {a : Pat} {d : ℕ}
        → l ≤ k → k < pat_level f a → Pattern f i a (t ∷ m) → PatFits f k r t x → d ≤ depth_pat a → OpensPat f l i (suc d)
    in_pat_chain : {f : Fixity} {l k : ℕ} {r : Bool} {i m : List Terminal} {a : Pat} {d : ℕ}
        → l ≤ k → k < pat_level f a → Pattern f i a m → OpensPatPart f k r m d → OpensPat f l i (suc d)
    -- a typed pattern, cut off after `:`, or in the type
    marked_pat : {f : Fixity} {l : ℕ} {i m : List Terminal} {a : Pat} {d : ℕ} (p : ℕ) → l ≤ 5 → 5 ≤ pat_level f a → Pattern f i a (reserved p res.Colon ∷ m)
        → d ≤ depth_pat a → OpensPat f l i (suc d)
    in_pat_ty : {f : Fixity} {l : ℕ} {i m : List Terminal} {a : Pat} {d : ℕ} (p : ℕ) → l ≤ 5 → 5 ≤ pat_level f a → Pattern f i a (reserved p res.Colon ∷ m)
        → OpensTy 0 m d → OpensPat f l i (suc d)
    -- [op] vid [: ty] as pat
    in_as : {f : Fixity} {l : ℕ} {i m n : List Terminal} {p : ℕ} {v : Placed Vid} {s : Option Ty} {d : ℕ} (q : ℕ) → l ≤ 0 → BindsVid f i p v m
        → MaybeTy m s (reserved q res.As ∷ n) → OpensPat f 0 n d → OpensPat f l i (suc d)

  pub data OpensAtPat : Fixity → List Terminal → ℕ → Type 0 where
    -- what begins it
    begun_atpat : {f : Fixity} {i : List Terminal} → BeginsPat f i → OpensAtPat f i 1
    -- (pat, which a tuple may go on with
    in_paren_pat : {f : Fixity} {i : List Terminal} {d : ℕ} (p : ℕ) → OpensPat f 0 i d → OpensAtPat f (reserved p res.LeftParen ∷ i) (suc d)
    -- (pat, .., pat)
    in_tuple_pat : {f : Fixity} {i m : List Terminal} {a : Pat} {d : ℕ} (p q : ℕ) → Pattern f i a (reserved q res.Comma ∷ m) → OpensPats f m d
        → OpensAtPat f (reserved p res.LeftParen ∷ i) (suc d)
    -- [pat, .., pat]
    in_list_pat : {f : Fixity} {i : List Terminal} {d : ℕ} (p : ℕ) → OpensPats f i d → OpensAtPat f (reserved p res.LeftBracket ∷ i) (suc d)
    -- { patrow }
    in_record_pat : {f : Fixity} {i : List Terminal} {d : ℕ} (p : ℕ) → OpensPatRow f i d → OpensAtPat f (reserved p res.LeftBrace ∷ i) (suc d)

  -- pat, .., pat
  pub data OpensPats : Fixity → List Terminal → ℕ → Type 0 where
    in_pat : {f : Fixity} {i : List Terminal} {d : ℕ} → OpensPat f 0 i d → OpensPats f i d
    past_pat : {f : Fixity} {i m : List Terminal} {a : Pat} {d : ℕ} (q : ℕ) → Pattern f i a (reserved q res.Comma ∷ m) → OpensPats f m d → OpensPats f i d

  -- patrow ::= field [, patrow]
  pub data OpensPatRow : Fixity → List Terminal → ℕ → Type 0 where
    in_pat_field : {f : Fixity} {i : List Terminal} {d : ℕ} → OpensField f i d → OpensPatRow f i d
    past_pat_field : {f : Fixity} {i m : List Terminal} {a : PatField} {d : ℕ} (q : ℕ) → Field f i a (reserved q res.Comma ∷ m) → OpensPatRow f m d
        → OpensPatRow f i d

  pub data OpensField : Fixity → List Terminal → ℕ → Type 0 where
    -- lab = pat
    in_labelled : {f : Fixity} {t : Terminal} {i : List Terminal} {l : Label} {d : ℕ} (p : ℕ) → IsLabel t l → OpensPat f 0 i d
        → OpensField f (t ∷ reserved p res.Equals ∷ i) d
    -- vid [: ty] [as pat]
    in_punned_ty : {f : Fixity} {t : Terminal} {i : List Terminal} {p x : ℕ} {d : ℕ} (q : ℕ) → IsVid t p x → fix_of (Named x) f ≡ None → OpensTy 0 i d
        → OpensField f (t ∷ reserved q res.Colon ∷ i) d
    in_punned_as : {f : Fixity} {t : Terminal} {i m : List Terminal} {p x : ℕ} {s : Option Ty} {d : ℕ} (q : ℕ) → IsVid t p x → fix_of (Named x) f ≡ None
        → MaybeTy i s (reserved q res.As ∷ m) → OpensPat f 0 m d → OpensField f (t ∷ i) d

  -- the further operands of a chain of level l that associates as r says
  pub data OpensPatPart : Fixity → ℕ → Bool → List Terminal → ℕ → Type 0 where
    in_pat_part : {f : Fixity} {l : ℕ} {r : Bool} {t : Terminal} {x : Placed ℕ} {m : List Terminal} {d : ℕ} → PatFits f l r t x → OpensPat f (suc l) m d
        → OpensPatPart f l r (t ∷ m) d
    past_pat_part : {f : Fixity} {l : ℕ} {r : Bool} {t : Terminal} {x : Placed ℕ} {m n : List Terminal} {b : Pat} {d : ℕ}
        → PatFits f l r t x → l < pat_level f b → Pattern f m b n → OpensPatPart f l r n d → OpensPatPart f l r (t ∷ m) d

-- atpat .. atpat
pub data OpensAtPats : Fixity → List Terminal → ℕ → Type 0 where
  in_one_atpat : {f : Fixity} {i : List Terminal} {d : ℕ} → OpensAtPat f i d → OpensAtPats f i d
  past_atpat : {f : Fixity} {i m : List Terminal} {a : Pat} {d : ℕ} → AtPat f i a m → OpensAtPats f m d → OpensAtPats f i d

-- no [op] vid is here
abbrev pub NoVid : Fixity → List Terminal → Type 0
NoVid f i = (p : ℕ) (v : Placed Vid) (m : List Terminal) → BindsVid f i p v m → ⊥

-- An identifier at the head of a clause is a pattern only where an infix identifier follows it; else it is the function's name.
pub data OpensHead : Fixity → List Terminal → ℕ → Type 0 where
  -- atpat vid atpat, cut off in the first pattern or in the second; so is the bracket of the third form
  in_first : {f : Fixity} {i : List Terminal} {d : ℕ} → NoVid f i → OpensAtPat f i d → OpensHead f i d
  first_is_vid : {f : Fixity} {i m : List Terminal} {t : Terminal} {p : ℕ} {v : Placed Vid} {x : Placed ℕ} → BindsVid f i p v (t ∷ m) → IsInfixVid f t x
      → OpensHead f i 1
  in_second : {f : Fixity} {i m : List Terminal} {t : Terminal} {x : Placed ℕ} {a : Pat} {d : ℕ} → AtPat f i a (t ∷ m) → IsInfixVid f t x → OpensAtPat f m d
      → OpensHead f i d
  -- [op] vid atpat .. atpat
  in_prefix : {f : Fixity} {i m : List Terminal} {p : ℕ} {v : Placed Vid} {d : ℕ} → BindsVid f i p v m → OpensAtPats f m d → OpensHead f i d
  -- (atpat vid atpat) atpat .. atpat
  in_bracketed : {f : Fixity} {i m n : List Terminal} {t : Terminal} {x : Placed ℕ} {a b : Pat} {d : ℕ} (p q : ℕ) → AtPat f i a (t ∷ m) → IsInfixVid f t x
      → AtPat f m b (reserved q res.RightParen ∷ n) → OpensAtPats f n d → OpensHead f (reserved p res.LeftParen ∷ i) d
