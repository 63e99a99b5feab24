-- Worked examples of texts that no tree reads.
use Rattle.std.proofs.Common.{◌≡◌, ◌<◌, ℕ, List, [], ◌∷◌, refl, sym, arith, Bool, true, false, Some, ◌⊎◌, inl, inr, subst, ◌∙◌}
use Rattle.std.specs.Prelude.{ℤ, pos}
use Rattle.mlc_names.specs.declared.token.Reserved.TheVariants as res
use Rattle.sml_tree.specs.declared.ident.Vid.TheVariants.{Named}
use Rattle.sml_tree.specs.Fixity.{Fixity}
use Rattle.sml_tree.specs.Terminal.{Terminal, reserved, number, alpha, symbol, alpha_vid, symbol_vid, is_number}
use Rattle.sml_tree.specs.ReadTree.{Exp, Parts, Joint}
use Rattle.sml_tree.specs.Levels.{level, parts_level, joint_level, joint_right}
use Rattle.sml_tree.specs.Grammar.{Atom, of_constant, of_vid, Reads, of_atom, of_app, of_chain, of_typed, of_handle, Follows, of_last_part, of_part, IsJoint, is_infix, plain_long, qualified}

-- An infix identifier begins no expression.

-- f x y under `infix f` has no tree
abbrev infix_f : Fixity
infix_f = record { vid = Named 1; status = Some (record { precedence = 0; right = false }) } ∷ []

abbrev text_f_x_y : List Terminal
text_f_x_y = alpha 0 1 ∷ alpha 2 2 ∷ alpha 4 3 ∷ []

no_atom_f : {e : Exp} {o : List Terminal} → Atom infix_f text_f_x_y e o → ⊥
no_atom_f (of_constant c) = elim c [ ]
no_atom_f (of_vid (plain_long (alpha_vid p x) e)) = absurd (cc)
no_atom_f (of_vid (qualified q)) = elim q [ ]

no_tree_f : {e : Exp} {o : List Terminal} → Reads infix_f text_f_x_y e o → ⊥
no_tree_f (of_atom a) = no_atom_f a
no_tree_f (of_app a b c) = no_atom_f a
no_tree_f (of_chain l r h g d c) = no_tree_f d
no_tree_f (of_typed p h g d c) = no_tree_f d
no_tree_f (of_handle p g d c) = no_tree_f d

-- Nothing begins with `;`: so no declaration reads val x = ;
no_atom_semicolon : {f : Fixity} {e : Exp} {p : ℕ} {i o : List Terminal} → Atom f (reserved p res.Semicolon ∷ i) e o → ⊥
no_atom_semicolon (of_constant c) = elim c [ ]
no_atom_semicolon (of_vid (plain_long v e)) = elim v [ ]
no_atom_semicolon (of_vid (qualified q)) = elim q [ ]

no_tree_semicolon : {f : Fixity} {e : Exp} {p : ℕ} {i o : List Terminal} → Reads f (reserved p res.Semicolon ∷ i) e o → ⊥
no_tree_semicolon (of_atom a) = no_atom_semicolon a
no_tree_semicolon (of_app a b c) = no_atom_semicolon a
no_tree_semicolon (of_chain l r h g d c) = no_tree_semicolon d
no_tree_semicolon (of_typed p h g d c) = no_tree_semicolon d
no_tree_semicolon (of_handle p g d c) = no_tree_semicolon d

-- 1 ++ 2 -- 3 under infixr 5 ++ and infix 5 -- has no tree
abbrev both : Fixity
both = record { vid = Named 2; status = Some (record { precedence = 5; right = false }) } ∷ record { vid = Named 1; status = Some (record { precedence = 5; right = true }) } ∷ []

abbrev from_3 : List Terminal
from_3 = number 10 (pos 3) true ∷ []

abbrev from_minus : List Terminal
from_minus = symbol 7 2 ∷ from_3

abbrev from_2 : List Terminal
from_2 = number 5 (pos 2) true ∷ from_minus

abbrev from_plus : List Terminal
from_plus = symbol 2 1 ∷ from_2

abbrev text_of_both : List Terminal
text_of_both = number 0 (pos 1) true ∷ from_plus

after_number : {f : Fixity} {e : Exp} {p : ℕ} {n : ℤ} {b : Bool} {i o : List Terminal} → Atom f (number p n b ∷ i) e o → o ≡ i
after_number (of_constant (is_number p n b)) = refl
after_number (of_vid (plain_long v e)) = elim v [ ]
after_number (of_vid (qualified q)) = elim q [ ]

no_atom_nil : {f : Fixity} {e : Exp} {o : List Terminal} → Atom f [] e o → ⊥
no_atom_nil (of_vid x) = elim x [ ]

no_atom_plus : {e : Exp} {o : List Terminal} → Atom both from_plus e o → ⊥
no_atom_plus (of_constant c) = elim c [ ]
no_atom_plus (of_vid (plain_long (symbol_vid p x) e)) = absurd (cc)
no_atom_plus (of_vid (qualified q)) = elim q [ ]

no_atom_minus : {e : Exp} {o : List Terminal} → Atom both from_minus e o → ⊥
no_atom_minus (of_constant c) = elim c [ ]
no_atom_minus (of_vid (plain_long (symbol_vid p x) e)) = absurd (cc)
no_atom_minus (of_vid (qualified q)) = elim q [ ]

atom_at : {f : Fixity} {e : Exp} {m n o : List Terminal} → m ≡ n → Atom f m e o → Atom f n e o
atom_at {f} {e} {m} {n} {o} h a = subst (λ k. Atom f k e o) h a

follows_at : {f : Fixity} {l : ℕ} {r : Bool} {ps : Parts} {m n o : List Terminal} → m ≡ n → Follows f l r m ps o → Follows f l r n ps o
follows_at {f} {l} {r} {ps} {m} {n} {o} h a = subst (λ k. Follows f l r k ps o) h a

no_follows_nil : {f : Fixity} {l : ℕ} {r : Bool} {ps : Parts} {o : List Terminal} → Follows f l r [] ps o → ⊥
no_follows_nil c = elim c [ ]

joint_plus : {j : Joint} → IsJoint both (symbol 2 1) j → (joint_level both j ≡ 13) × (joint_right both j ≡ true)
joint_plus (is_infix (symbol_vid p x) e) = (refl, refl)

joint_minus : {j : Joint} → IsJoint both (symbol 7 2) j → (joint_level both j ≡ 13) × (joint_right both j ≡ false)
joint_minus (is_infix (symbol_vid p x) e) = (refl, refl)

whole_3 : {e : Exp} {o : List Terminal} → Reads both from_3 e o → o ≡ []
whole_3 (of_atom a) = after_number a
whole_3 (of_app a b c) = absurd (no_atom_nil (atom_at (after_number a) b))
whole_3 (of_chain l r h g d c) = absurd (no_follows_nil (follows_at (whole_3 d) c))
whole_3 (of_typed p h g d c) = let e : _ ∷ _ ≡ [] = whole_3 d in absurd (cc)
whole_3 (of_handle p g d c) = let e : _ ∷ _ ≡ [] = whole_3 d in absurd (cc)

minus_level : {l : ℕ} {r : Bool} {ps : Parts} {o : List Terminal} → Follows both l r from_minus ps o → (l ≡ 13) × (r ≡ false)
minus_level (of_last_part fit h d) = (sym fit.level ∙ (joint_minus fit.is).0, sym fit.right ∙ (joint_minus fit.is).1)
minus_level (of_part fit h g d c) = (sym fit.level ∙ (joint_minus fit.is).0, sym fit.right ∙ (joint_minus fit.is).1)

after_minus : {l : ℕ} {r : Bool} {ps : Parts} {o : List Terminal} → Follows both l r from_minus ps o → (o ≡ []) × (parts_level both ps ≡ 13)
after_minus (of_last_part fit h d) = (whole_3 d, (joint_minus fit.is).0)
after_minus (of_part fit h g d c) = absurd (no_follows_nil (follows_at (whole_3 d) c))

abbrev Middle : List Terminal → ℕ → Type 0
Middle o n = (o ≡ from_minus) ⊎ ((o ≡ []) × (n ≡ 13))

middle_chain : {l n : ℕ} {r : Bool} {ps : Parts} {m o : List Terminal} → Middle m n → Follows both l r m ps o → Middle o (parts_level both ps)
middle_chain (inl h) c = inr (after_minus (follows_at h c))
middle_chain (inr h) c = absurd (no_follows_nil (follows_at h.0 c))

colon_middle : {p n : ℕ} {m : List Terminal} → Middle (reserved p res.Colon ∷ m) n → ⊥
colon_middle (inl h) = cc
colon_middle (inr h) = let e : _ ∷ _ ≡ [] = h.0 in cc

handle_middle : {p n : ℕ} {m : List Terminal} → Middle (reserved p res.Handle ∷ m) n → ⊥
handle_middle (inl h) = cc
handle_middle (inr h) = let e : _ ∷ _ ≡ [] = h.0 in cc

whole_2 : {e : Exp} {o : List Terminal} → Reads both from_2 e o → Middle o (level both e)
whole_2 (of_atom a) = inl (after_number a)
whole_2 (of_app a b c) = absurd (no_atom_minus (atom_at (after_number a) b))
whole_2 (of_chain l r h g d c) = middle_chain (whole_2 d) c
whole_2 (of_typed p h g d c) = absurd (colon_middle (whole_2 d))
whole_2 (of_handle p g d c) = absurd (handle_middle (whole_2 d))

abbrev Outer : List Terminal → ℕ → Type 0
Outer o n = (o ≡ from_plus) ⊎ ((o ≡ from_minus) × (n ≡ 13))

not_above : {l n : ℕ} → l ≡ 13 → n ≡ 13 → l < n → ⊥
not_above a b h = omega (arith, a, b, h)

true_false : {r : Bool} → r ≡ true → r ≡ false → ⊥
true_false a b = cc

last_after_plus : {l n k : ℕ} {o : List Terminal} → l ≡ 13 → k ≡ 13 → l < n → Middle o n → (o ≡ from_minus) × (k ≡ 13)
last_after_plus a k h (inl e) = (e, k)
last_after_plus a k h (inr e) = absurd (not_above a e.1 h)

more_after_plus : {l n k : ℕ} {r : Bool} {ps : Parts} {m o : List Terminal} → r ≡ true → Middle m n → Follows both l r m ps o → (o ≡ from_minus) × (k ≡ 13)
more_after_plus a (inl e) c = absurd (true_false a (minus_level (follows_at e c)).1)
more_after_plus a (inr e) c = absurd (no_follows_nil (follows_at e.0 c))

after_plus : {l : ℕ} {r : Bool} {ps : Parts} {o : List Terminal} → Follows both l r from_plus ps o → (o ≡ from_minus) × (parts_level both ps ≡ 13)
after_plus (of_last_part fit h d) = last_after_plus (sym fit.level ∙ (joint_plus fit.is).0) (joint_plus fit.is).0 h (whole_2 d)
after_plus (of_part fit h g d c) = more_after_plus (sym fit.right ∙ (joint_plus fit.is).1) (whole_2 d) c

outer_chain : {l n : ℕ} {r : Bool} {ps : Parts} {m o : List Terminal} → l < n → Outer m n → Follows both l r m ps o → Outer o (parts_level both ps)
outer_chain h (inl e) c = inr (after_plus (follows_at e c))
outer_chain h (inr e) c = absurd (not_above (minus_level (follows_at e.0 c)).0 e.1 h)

colon_outer : {p n : ℕ} {m : List Terminal} → Outer (reserved p res.Colon ∷ m) n → ⊥
colon_outer (inl h) = cc
colon_outer (inr h) = let e : _ ∷ _ ≡ from_minus = h.0 in cc

handle_outer : {p n : ℕ} {m : List Terminal} → Outer (reserved p res.Handle ∷ m) n → ⊥
handle_outer (inl h) = cc
handle_outer (inr h) = let e : _ ∷ _ ≡ from_minus = h.0 in cc

reads_both : {e : Exp} {o : List Terminal} → Reads both text_of_both e o → Outer o (level both e)
reads_both (of_atom a) = inl (after_number a)
reads_both (of_app a b c) = absurd (no_atom_plus (atom_at (after_number a) b))
reads_both (of_chain l r h g d c) = outer_chain h (reads_both d) c
reads_both (of_typed p h g d c) = absurd (colon_outer (reads_both d))
reads_both (of_handle p g d c) = absurd (handle_outer (reads_both d))

not_whole : {n : ℕ} → Outer [] n → ⊥
not_whole (inl h) = cc
not_whole (inr h) = let e : [] ≡ from_minus = h.0 in cc

pub no_tree_both : {e : Exp} → Reads both text_of_both e [] → ⊥
no_tree_both d = not_whole (reads_both d)
