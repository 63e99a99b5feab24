-- Comments in texts that are cut off.
use Rattle.std.proofs.Common.{◌≡◌, ℕ, zero, suc, ◌+◌, ◌-◌, ◌<◌, ◌≤◌, inl, inr, ◌==◌, List, [], ◌∷◌, length, take, drop, Some, refl, arith, sym, ◌∙◌}
use Rattle.std.proofs.lemmas.Bool.{cases_Bool}
use Rattle.sml_lexer.specs.Comments.{after_comments, opens, closes}

pub record CutsComment (n : ℕ) (text rest : List ℕ) : Type 0 where
  pub len : ℕ
  pub some : 0 < len
  pub within : len ≤ length text
  pub rest_is : rest ≡ drop len text
  pub same : (s : ℕ) → len ≤ s → after_comments n (take s text) ≡ Some (drop len (take s text))

-- a bracket, and more comments
bracket : (n m c d : ℕ) (text rest : List ℕ) → ((t : List ℕ) → after_comments n (c ∷ d ∷ t) ≡ after_comments m t) → CutsComment m text rest → CutsComment n (c ∷ d ∷ text) rest
bracket n m c d text rest step i = record {
  len = suc (suc i.len);
  some = omega arith;
  within = omega (arith, i.within);
  rest_is = i.rest_is;
  same = λ s. elim s as (λ s. suc (suc i.len) ≤ s → after_comments n (take s (c ∷ d ∷ text)) ≡ Some (drop (suc (suc i.len)) (take s (c ∷ d ∷ text)))) [
    | zero ↦ λ h. absurd (omega arith)
    | suc s ↦ elim s as (λ s. suc (suc i.len) ≤ suc s → after_comments n (take (suc s) (c ∷ d ∷ text)) ≡ Some (drop (suc (suc i.len)) (take (suc s) (c ∷ d ∷ text)))) [
      | zero ↦ λ h. absurd (omega arith)
      | suc s ↦ λ h. step (take s text) ∙ i.same s (omega arith)
    ]
  ];
}

last : (n c d : ℕ) (text rest : List ℕ) → ((t : List ℕ) → after_comments n (c ∷ d ∷ t) ≡ Some t) → text ≡ rest → CutsComment n (c ∷ d ∷ text) rest
last n c d text rest step e = record {
  len = 2;
  some = omega arith;
  within = omega arith;
  rest_is = sym e;
  same = λ s. elim s as (λ s. 2 ≤ s → after_comments n (take s (c ∷ d ∷ text)) ≡ Some (drop 2 (take s (c ∷ d ∷ text)))) [
    | zero ↦ λ h. absurd (omega arith)
    | suc s ↦ elim s as (λ s. 2 ≤ suc s → after_comments n (take (suc s) (c ∷ d ∷ text)) ≡ Some (drop 2 (take (suc s) (c ∷ d ∷ text)))) [
      | zero ↦ λ h. absurd (omega arith)
      | suc s ↦ λ h. step (take s text)
    ]
  ];
}

passed : (n c d : ℕ) (text rest : List ℕ) → ((t : List ℕ) → after_comments n (c ∷ d ∷ t) ≡ after_comments n (d ∷ t)) → CutsComment n (d ∷ text) rest → CutsComment n (c ∷ d ∷ text) rest
passed n c d text rest step i =
    let some = i.some in
    record {
      len = suc i.len;
      some = omega arith;
      within = omega (arith, i.within);
      rest_is = i.rest_is;
      same = λ s. elim s as (λ s. suc i.len ≤ s → after_comments n (take s (c ∷ d ∷ text)) ≡ Some (drop (suc i.len) (take s (c ∷ d ∷ text)))) [
        | zero ↦ λ h. absurd (omega arith)
        | suc s ↦ elim s as (λ s. suc i.len ≤ suc s → after_comments n (take (suc s) (c ∷ d ∷ text)) ≡ Some (drop (suc i.len) (take (suc s) (c ∷ d ∷ text)))) [
          | zero ↦ λ h. absurd (omega (arith, some))
          | suc s ↦ λ h. step (take s text) ∙ i.same (suc s) (omega arith)
        ]
      ];
    }

some_same : (r s : List ℕ) → Some r ≡ Some s → r ≡ s
some_same r s e = cc

pub comment_cut : (text : List ℕ) (n : ℕ) (rest : List ℕ) → after_comments n text ≡ Some rest → CutsComment n text rest
comment_cut [] n rest e = cc
comment_cut (c ∷ []) n rest e = cc
comment_cut (c ∷ d ∷ text) n rest e =
    elim (cases_Bool (opens c d)) as (λ _. CutsComment n (c ∷ d ∷ text) rest) [
      | inl is ↦ bracket n (n + 1) c d text rest (λ t. rw is refl) (comment_cut text (n + 1) rest (rw is at e))
      | inr isnt ↦ elim (cases_Bool (closes c d)) as (λ _. CutsComment n (c ∷ d ∷ text) rest) [
        | inl is ↦ elim (cases_Bool (n == 1)) as (λ _. CutsComment n (c ∷ d ∷ text) rest) [
          | inl one ↦ last n c d text rest (λ t. rw (isnt, is, one) refl) (some_same text rest (rw (isnt, is, one) at e))
          | inr more ↦ bracket n (n - 1) c d text rest (λ t. rw (isnt, is, more) refl) (comment_cut text (n - 1) rest (rw (isnt, is, more) at e))
        ]
        | inr neither ↦ passed n c d text rest (λ t. rw (isnt, neither) refl) (comment_cut (d ∷ text) n rest (rw (isnt, neither) at e))
      ]
    ]
