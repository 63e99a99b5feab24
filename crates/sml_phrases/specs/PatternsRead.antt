-- What was read of patterns, against the reading function's answer.
use Rattle.std.specs.Prelude.{ℕ, suc, ◌≡◌, ◌≤◌, ◌<◌, List, ◌∷◌, ◌++◌, length, map, max, Bool, true, false, Some, None}
use Rattle.mlc_names.specs.declared.label.Label.TheVariants.{Word}
use Rattle.mlc_names.specs.declared.token.Token.{Token}
use Rattle.mlc_names.specs.declared.token.Reserved.{Reserved}
use Rattle.mlc_names.specs.declared.token.Reserved.TheVariants as res
use Rattle.sml_tree.specs.Terminal.{Terminal, int, reserved, number, constant, alpha, symbol, star, long_alpha, long_symbol, long_star}
use Rattle.sml_tree.specs.BareTree as tree
use Rattle.sml_tree.specs.Derived as derived
use Rattle.sml_tree.specs.ReadTree as read
use Rattle.sml_tree.specs.ReadTree.{Placed, Pats, PatParts, pat_place, head_place, head_vid, head_count}
use Rattle.sml_tree.specs.Fixity.{Fixity, fix_of}
use Rattle.sml_tree.specs.Levels.{infix_level, pat_level, pat_parts_level, vid_level, vid_right}
use Rattle.sml_tree.specs.Bare.{at, bare_pat, bare_some, pat_list, pat_operands, bare_pat_fields}
use Rattle.sml_tree.specs.Depth.{depth_pat, depth_pats, depth_pat_fields, depth_pat_field, depth_pat_parts}
use Rattle.sml_tree.specs.TreeOf.{pat_of, pat_field_of, pat_part_of, PatFieldOf, pat_fields_of}
use Rattle.sml_tree.specs.declared.ident.Vid.TheVariants.{Named}
use Rattle.sml_tree.specs.declared.tree.Pat.{Pat}
use Rattle.sml_tree.specs.declared.tree.PatField.{PatField}
use Rattle.sml_tree.specs.declared.tree.PatPart.{PatPart}
use Rattle.sml_grammar.specs.Answer.{Read, Answer, then_read}
use Rattle.sml_grammar.specs.Answer as answer
use Rattle.sml_grammar.specs.Terminals.{place_at, taken, after_word, infix_vid, names_vid}
use Rattle.sml_grammar.specs.Patterns.{PatReader, PatRowRead, PatStart, wild_start, constant_start, vid_if, whole_pat_parts}
use Rattle.sml_grammar.specs.Types.{read_ty}
use Rattle.phrase_base.specs.declared.source.Source.{Source}
use Rattle.sml_phrases.specs.declared.patterns.Suffix.{Suffix}
use Rattle.sml_phrases.specs.declared.patterns.Suffix.TheVariants.{Colon, Joint}
use Rattle.phrase_base.specs.Left.{left}

-- a pattern that begins at i, at most n deep
pub record IsPat (s : Source) (n : ℕ) (i : List Terminal) (pat : Pat) (d : ℕ) (o : List Token) (got : Read read.Pat) : Type 0 where
  pub rest : left s o ≡ got.rest
  pub bare : pat_of pat ≡ bare_pat s.file got.tree
  pub depth : d ≡ depth_pat got.tree
  pub place : pat_place got.tree ≡ place_at i
  pub fits : depth_pat got.tree ≤ n
  pub shorter : length got.rest < length i

-- and of this level
pub record IsPatAt (s : Source) (f : Fixity) (l : ℕ) (n : ℕ) (i : List Terminal) (pat : Pat) (d : ℕ) (o : List Token) (got : Read read.Pat) : Type 0 where
  pub rest : left s o ≡ got.rest
  pub bare : pat_of pat ≡ bare_pat s.file got.tree
  pub depth : d ≡ depth_pat got.tree
  pub place : pat_place got.tree ≡ place_at i
  pub fits : depth_pat got.tree ≤ n
  pub shorter : length got.rest < length i
  pub level : pat_level f got.tree ≡ l

-- further patterns after those of `front`, the deepest of which is d0 deep
pub record IsPats (s : Source) (n : ℕ) (i : List Terminal) (front : List Pat) (d0 : ℕ) (pats : List Pat) (d : ℕ) (o : List Token)
    (got : Read Pats) : Type 0 where
  pub rest : left s o ≡ got.rest
  pub bare : map pat_of pats ≡ map pat_of front ++ pat_list s.file got.tree
  pub depth : d ≡ max d0 (depth_pats got.tree)
  pub fits : depth_pats got.tree ≤ n
  pub shorter : length got.rest ≤ length i

-- the operands of a chain after the first, of which v is the first joint
pub record IsPatParts (s : Source) (f : Fixity) (n : ℕ) (i : List Terminal) (v : ℕ) (parts : List PatPart) (d : ℕ) (o : List Token)
    (got : Read PatParts) : Type 0 where
  pub rest : left s o ≡ got.rest
  pub bare : map pat_part_of parts ≡ pat_operands s.file got.tree
  pub depth : d ≡ depth_pat_parts got.tree
  pub level : pat_parts_level f got.tree ≡ vid_level f (Named v)
  pub fits : depth_pat_parts got.tree ≤ n
  pub shorter : length got.rest < length i

-- a field of a record pattern, as what it stands for
abbrev pub field_of : ℕ → read.PatField → PatFieldOf
field_of f (read.labelled l a) = record { label = l; pat = bare_pat f a }
field_of f (read.punned p x t) = record { label = Word x; pat = derived.pun (at f p) x (bare_some f t) }
field_of f (read.punned_as p x t a) = record { label = Word x; pat = tree.as_pat (at f p) (Named x) (bare_some f t) (bare_pat f a) }

pub record IsPatField (s : Source) (n : ℕ) (i : List Terminal) (field : PatField) (d : ℕ) (o : List Token) (got : Read read.PatField) : Type 0 where
  pub rest : left s o ≡ got.rest
  pub bare : pat_field_of field ≡ field_of s.file got.tree
  pub depth : d ≡ depth_pat_field got.tree
  pub fits : depth_pat_field got.tree ≤ n
  pub shorter : length got.rest < length i

-- the fields of a record pattern, and whether `...` ends them
pub record IsPatRow (s : Source) (n : ℕ) (i : List Terminal) (fields : List PatField) (dots : Bool) (d : ℕ) (o : List Token)
    (got : Read PatRowRead) : Type 0 where
  pub rest : left s o ≡ got.rest
  pub bare : pat_fields_of (map pat_field_of fields) ≡ bare_pat_fields s.file got.tree.fields
  pub dots_are : dots ≡ got.tree.dots
  pub depth : d ≡ depth_pat_fields got.tree.fields
  pub fits : depth_pat_fields got.tree.fields ≤ n
  pub shorter : length got.rest < length i

-- what an atomic pattern begins with that no bracket begins
abbrev pub plain_pat_start : Fixity → List Terminal → PatStart
plain_pat_start f (reserved p res.Underscore ∷ o) = wild_start p o
plain_pat_start f (number p n plain ∷ o) = constant_start p (int n) o
plain_pat_start f (constant p c ∷ o) = constant_start p c o
plain_pat_start f i = vid_if (place_at i) (names_vid f i)

-- what goes on with a pattern
abbrev pub Suffixed : Fixity → List Terminal → Suffix → List Terminal → Type 0
Suffixed f i Colon m = (infix_vid f i ≡ None) × (after_word res.Colon i ≡ Some m)
Suffixed f i (Joint x how) m = (infix_vid f i ≡ taken (record { place = place_at i; it = x }) m) × (fix_of (Named x) f ≡ Some how)

-- the level of what a suffix makes, and the least level of the pattern that it may follow
abbrev pub suffix_level : Suffix → ℕ
suffix_level Colon = 5
suffix_level (Joint x how) = infix_level (Some how)

abbrev pub suffix_least : Suffix → ℕ
suffix_least Colon = 5
suffix_least (Joint x how) = suc (infix_level (Some how))

-- what follows the pattern a and a suffix whose first terminal is at p, and what they make
abbrev pub suffix_read : PatReader → ℕ → Fixity → read.Pat → ℕ → Suffix → List Terminal → Answer read.Pat
suffix_read self n f a p Colon m = then_read (read_ty n 0 m) (λ t o. answer.read (read.typed_pat a t) o)
suffix_read self n f a p (Joint x how) m = then_read (whole_pat_parts self f (record { place = p; it = x }) m)
    (λ ps o. answer.read (read.chain_pat (vid_right f (Named x)) a ps) o)

-- an atomic pattern begins here that begins neither with `op` nor with an identifier without a qualifier
abbrev pub pat_word : Reserved → Bool
pat_word res.Underscore = true
pat_word res.LeftBrace = true
pat_word res.LeftParen = true
pat_word res.LeftBracket = true
pat_word w = false

abbrev pub begins_other : List Terminal → Bool
begins_other (reserved p w ∷ o) = pat_word w
begins_other (number p n plain ∷ o) = true
begins_other (constant p c ∷ o) = true
begins_other (long_alpha p qs x ∷ o) = true
begins_other (long_symbol p qs x ∷ o) = true
begins_other (long_star p qs x ∷ o) = true
begins_other i = false

-- what `op` may stand before
abbrev pub begins_named : List Terminal → Bool
begins_named (alpha p x ∷ o) = true
begins_named (symbol p x ∷ o) = true
begins_named (star p x ∷ o) = true
begins_named (long_alpha p qs x ∷ o) = true
begins_named (long_symbol p qs x ∷ o) = true
begins_named (long_star p qs x ∷ o) = true
begins_named (reserved p res.Equals ∷ o) = true
begins_named i = false
