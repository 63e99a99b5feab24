-- Long identifiers in texts that are cut off.
use Rattle.std.proofs.Common.{◌≡◌, ℕ, zero, suc, ◌≤◌, ◌⊎◌, inl, inr, true, false, ◌==◌, List, [], ◌∷◌, ◌++◌, length, take, drop, refl, arith, sym, ap, ◌∙◌}
use Rattle.std.proofs.lemmas.Bool.{cases_Bool}
use Rattle.std.proofs.lemmas.List.{take-take}
use Rattle.sml_lexer.specs.declared.identifiers.Part.{Part}
use Rattle.sml_lexer.specs.declared.identifiers.Part.TheVariants.{Letters, Symbols, Nothing}
use Rattle.sml_lexer.specs.Identifiers.{named, next_part, qualified}
use Rattle.sml_lexer.specs.Item.{found}
use Rattle.sml_lexer.specs.Lexeme.{Lexeme, long_symbol}
use Rattle.sml_lexer.proofs.PartCut.{part_cut, part_len, part_within}

-- of an identifier that was read but for `skipped` bytes, `len` bytes are read on, also where the text is cut off after them
pub record CutsName (skipped : ℕ) (qs : List (List ℕ)) (name text : List ℕ) (lexeme : Lexeme) (rest : List ℕ) : Type 0 where
  pub len : ℕ
  pub beyond : skipped ≤ len
  pub within : len ≤ length text
  pub rest_is : rest ≡ drop len text
  pub same : (s : ℕ) → len ≤ s → qualified skipped qs name (take s text) ≡ found lexeme (drop len (take s text))

pub found_lexeme : (k l : Lexeme) (r s : List ℕ) → found k r ≡ found l s → k ≡ l
found_lexeme k l r s e = cc

pub found_rest : (k l : Lexeme) (r s : List ℕ) → found k r ≡ found l s → r ≡ s
found_rest k l r s e = cc

part_cases : (p : Part) → ((n : ℕ) × (p ≡ Letters n)) ⊎ (((n : ℕ) × (p ≡ Symbols n)) ⊎ (p ≡ Nothing))
part_cases (Letters n) = inl (n, refl)
part_cases (Symbols n) = inr (inl (n, refl))
part_cases Nothing = inr (inr refl)

no_dot : (c : ℕ) (qs : List (List ℕ)) (name text : List ℕ) (lexeme : Lexeme) (rest : List ℕ) → (c == 46) ≡ false → qualified 0 qs name (c ∷ text) ≡ found lexeme rest → CutsName 0 qs name (c ∷ text) lexeme rest
no_dot c qs name text lexeme rest isnt e =
    let ends : found (named qs name) (c ∷ text) ≡ found lexeme rest = rw isnt at e in
    record {
      len = 0;
      beyond = omega arith;
      within = omega arith;
      rest_is = sym (found_rest _ _ _ _ ends);
      same = λ s _. elim s as (λ s. qualified 0 qs name (take s (c ∷ text)) ≡ found lexeme (drop 0 (take s (c ∷ text)))) [
        | zero ↦ ap (λ l. found l []) (found_lexeme _ _ _ _ ends)
        | suc s ↦ rw isnt (ap (λ l. found l (c ∷ take s text)) (found_lexeme _ _ _ _ ends))
      ];
    }

no_part : (c : ℕ) (qs : List (List ℕ)) (name text : List ℕ) (lexeme : Lexeme) (rest : List ℕ) → (c == 46) ≡ true → next_part text ≡ Nothing → qualified 0 qs name (c ∷ text) ≡ found lexeme rest → CutsName 0 qs name (c ∷ text) lexeme rest
no_part c qs name text lexeme rest is p e =
    let ends : found (named qs name) (c ∷ text) ≡ found lexeme rest = rw (is, p) at e in
    let none : part_len (next_part text) ≤ 0 = rw p (omega arith) in
    record {
      len = 0;
      beyond = omega arith;
      within = omega arith;
      rest_is = sym (found_rest _ _ _ _ ends);
      same = λ s _. elim s as (λ s. qualified 0 qs name (take s (c ∷ text)) ≡ found lexeme (drop 0 (take s (c ∷ text)))) [
        | zero ↦ ap (λ l. found l []) (found_lexeme _ _ _ _ ends)
        | suc s ↦
            let q : next_part (take s text) ≡ Nothing = part_cut text s (omega (arith, none)) ∙ p in
            rw (is, q) (ap (λ l. found l (c ∷ take s text)) (found_lexeme _ _ _ _ ends))
      ];
    }

symbols : (c len : ℕ) (qs : List (List ℕ)) (name text : List ℕ) (lexeme : Lexeme) (rest : List ℕ) → (c == 46) ≡ true → next_part text ≡ Symbols len → qualified 0 qs name (c ∷ text) ≡ found lexeme rest → CutsName 0 qs name (c ∷ text) lexeme rest
symbols c len qs name text lexeme rest is p e =
    let ends : found (long_symbol (qs ++ name ∷ []) (take len text)) (drop len text) ≡ found lexeme rest = rw (is, p) at e in
    let fits : len ≤ length text = rw p at (part_within text) in
    record {
      len = suc len;
      beyond = omega arith;
      within = omega (arith, fits);
      rest_is = sym (found_rest _ _ _ _ ends);
      same = λ s. elim s as (λ s. suc len ≤ s → qualified 0 qs name (take s (c ∷ text)) ≡ found lexeme (drop (suc len) (take s (c ∷ text)))) [
        | zero ↦ λ h. absurd (omega arith)
        | suc s ↦ λ h.
            let room : len ≤ s = omega arith in
            let q : next_part (take s text) ≡ Symbols len = part_cut text s (rw p room) ∙ p in
            let front = take-take len s text room in
            rw (is, q, front) (ap (λ l. found l (drop len (take s text))) (found_lexeme _ _ _ _ ends))
      ];
    }

letters : (c len : ℕ) (qs : List (List ℕ)) (name text : List ℕ) (lexeme : Lexeme) (rest : List ℕ) → (c == 46) ≡ true → next_part text ≡ Letters len → CutsName len (qs ++ name ∷ []) (take len text) text lexeme rest → CutsName 0 qs name (c ∷ text) lexeme rest
letters c len qs name text lexeme rest is p i = record {
  len = suc i.len;
  beyond = omega arith;
  within = omega (arith, i.within);
  rest_is = i.rest_is;
  same = λ s. elim s as (λ s. suc i.len ≤ s → qualified 0 qs name (take s (c ∷ text)) ≡ found lexeme (drop (suc i.len) (take s (c ∷ text)))) [
    | zero ↦ λ h. absurd (omega arith)
    | suc s ↦ λ h.
        let room : i.len ≤ s = omega arith in
        let fits : len ≤ s = omega (arith, i.beyond) in
        let q : next_part (take s text) ≡ Letters len = part_cut text s (rw p fits) ∙ p in
        let front = take-take len s text fits in
        rw (is, q, front) (i.same s room)
  ];
}

pub name_cut : (text : List ℕ) (skipped : ℕ) (qs : List (List ℕ)) (name : List ℕ) (lexeme : Lexeme) (rest : List ℕ) → skipped ≤ length text → qualified skipped qs name text ≡ found lexeme rest → CutsName skipped qs name text lexeme rest
name_cut [] zero qs name lexeme rest h e = record {
  len = 0;
  beyond = omega arith;
  within = omega arith;
  rest_is = sym (found_rest _ _ _ _ e);
  same = λ s _. elim s as (λ s. qualified 0 qs name (take s []) ≡ found lexeme (drop 0 (take s []))) [
    | zero ↦ ap (λ l. found l []) (found_lexeme _ _ _ _ e)
    | suc s ↦ ap (λ l. found l []) (found_lexeme _ _ _ _ e)
  ];
}
name_cut [] (suc skipped) qs name lexeme rest h e = absurd (omega arith)
name_cut (c ∷ text) (suc skipped) qs name lexeme rest h e =
    let i = name_cut text skipped qs name lexeme rest (omega arith) e in
    record {
      len = suc i.len;
      beyond = omega (arith, i.beyond);
      within = omega (arith, i.within);
      rest_is = i.rest_is;
      same = λ s. elim s as (λ s. suc i.len ≤ s → qualified (suc skipped) qs name (take s (c ∷ text)) ≡ found lexeme (drop (suc i.len) (take s (c ∷ text)))) [
        | zero ↦ λ k. absurd (omega arith)
        | suc s ↦ λ k. i.same s (omega arith)
      ];
    }
name_cut (c ∷ text) zero qs name lexeme rest h e =
    elim (cases_Bool (c == 46)) as (λ _. CutsName 0 qs name (c ∷ text) lexeme rest) [
      | inr isnt ↦ no_dot c qs name text lexeme rest isnt e
      | inl is ↦ elim (part_cases (next_part text)) as (λ _. CutsName 0 qs name (c ∷ text) lexeme rest) [
        | inl p ↦
            let fits : p.0 ≤ length text = rw p.1 at (part_within text) in
            let on : qualified p.0 (qs ++ name ∷ []) (take p.0 text) text ≡ found lexeme rest = rw (is, p.1) at e in
            letters c p.0 qs name text lexeme rest is p.1 (name_cut text p.0 (qs ++ name ∷ []) (take p.0 text) lexeme rest fits on)
        | inr q ↦ elim q as (λ _. CutsName 0 qs name (c ∷ text) lexeme rest) [
          | inl p ↦ symbols c p.0 qs name text lexeme rest is p.1 e
          | inr p ↦ no_part c qs name text lexeme rest is p e
        ]
      ]
    ]
