-- How a source is read: declarations of structures, signatures and functors, and expressions.
use Rattle.std.specs.Prelude.{ℕ, zero, suc, List, [], ◌∷◌, Bool, true, if◌then◌else◌}
use Rattle.mlc_names.specs.declared.token.Reserved.TheVariants as res
use Rattle.sml_tree.specs.Terminal.{Terminal, reserved, alpha}
use Rattle.sml_tree.specs.Fixity.{Fixity}
use Rattle.sml_tree.specs.ReadTree.{Placed}
use Rattle.sml_grammar.specs.Answer.{Answer, bad, deep, read, then_read, Turn, last, more, whole}
use Rattle.sml_grammar.specs.Terminals.{first_as, after_word, on_some, then_taken, word_then, separated, NoState, no_state}
use Rattle.sml_grammar.specs.Expressions.{readers}
use Rattle.module_tree.specs.ReadModules.{Parameter, structure_parameter, spec_parameter, FunBind, SigBind, Top, str_top, signature_top, functor_top, exp_top}
use Rattle.module_tree.specs.Scope.{after_top}
use Rattle.module_tree.specs.ModuleGrammar.{ends_in_semicolon}
use Rattle.module_grammar.specs.Signatures.{as_module_id, id_then, read_sig, specs_from}
use Rattle.module_grammar.specs.Structures.{StrDecsReader, maybe_sig, str_readers, str_dec_by, begins_str_dec}

-- sigid = sigexp and ..
abbrev pub sig_bind_turn : ℕ → NoState → List Terminal → Answer (Turn (List SigBind) NoState)
sig_bind_turn n s i =
    id_then res.Equals (λ x k. then_read (read_sig n k) (λ g o.
    separated (after_word res.And o) (λ bs. record { sigid = x; sigexp = g } ∷ bs) (record { sigid = x; sigexp = g } ∷ []) s o)) i

-- what a functor takes, after the bracket at p
abbrev pub read_parameter : ℕ → ℕ → List Terminal → Answer Parameter
read_parameter n p (alpha q x ∷ i) =
    word_then res.Colon (λ k. then_read (read_sig n k) (λ g o. read (structure_parameter (record { place = q; it = x }) g) o)) i
read_parameter n p i = then_read (specs_from n (read_sig n) i) (λ ss o. read (spec_parameter p ss) o)

-- after `funid (.. )`
abbrev pub fun_bind_rest : ℕ → Fixity → Placed ℕ → Parameter → List Terminal → Answer FunBind
fun_bind_rest n f x a i =
    then_read (maybe_sig n i) (λ g m. word_then res.Equals (λ k. then_read ((str_readers n).str f k) (λ s o.
    read (record { funid = x; parameter = a; result = g; body = s }) o)) m)

-- the place of the bracket is that of the terminal before what it holds
abbrev pub one_fun_bind : ℕ → Fixity → Placed ℕ → List Terminal → Answer FunBind
one_fun_bind n f x (reserved p res.LeftParen ∷ i) =
    then_read (read_parameter n p i) (λ a m. word_then res.RightParen (fun_bind_rest n f x a) m)
one_fun_bind n f x i = bad

abbrev pub fun_bind_turn : ℕ → Fixity → NoState → List Terminal → Answer (Turn (List FunBind) NoState)
fun_bind_turn n f s i =
    then_taken (first_as as_module_id i) (λ x m. then_read (one_fun_bind n f x m) (λ b o.
    separated (after_word res.And o) (λ bs. b ∷ bs) (b ∷ []) s o))

-- how the declarations in a `local` are read, where phrases may be n deep
abbrev pub inner_decs : ℕ → StrDecsReader
inner_decs zero f i = deep
inner_decs (suc n) f i = (str_readers n).decs f i

abbrev pub begins_top : List Terminal → Bool
begins_top (reserved p res.Signature ∷ i) = true
begins_top (reserved p res.Functor ∷ i) = true
begins_top i = begins_str_dec i

abbrev pub top_by : ℕ → Fixity → List Terminal → Answer Top
top_by n f (reserved p res.Signature ∷ i) = then_read (whole (sig_bind_turn n) no_state i) (λ bs o. read (signature_top p bs) o)
top_by n f (reserved p res.Functor ∷ i) = then_read (whole (fun_bind_turn n f) no_state i) (λ bs o. read (functor_top p bs) o)
top_by n f i = then_read (str_dec_by n (str_readers n).str (inner_decs n) f i) (λ d o. read (str_top d) o)

-- the fixities in force, and whether an expression may stand here
pub record Standing : Type 0 where
  pub fix : Fixity
  pub fresh : Bool

-- exp ;
abbrev pub exp_by : ℕ → Fixity → List Terminal → Answer Top
exp_by n f i = then_read ((readers n).exp f 0 i) (λ e m. word_then res.Semicolon (λ o. read (exp_top e) o) m)

-- what follows this phrase
abbrev pub after_one : Standing → Top → List Terminal → Answer (Turn (List Top) Standing)
after_one s t o = read (more (λ ts. t ∷ ts) (record { fix = after_top s.fix t; fresh = ends_in_semicolon t })) o

-- what begins no declaration is an expression, where one may stand
abbrev pub top_turn_by : ℕ → Standing → List Terminal → Answer (Turn (List Top) Standing)
top_turn_by n s i =
    if begins_top i
    then then_read (top_by n s.fix i) (after_one s)
    else (if s.fresh then then_read (exp_by n s.fix i) (after_one s) else bad)

abbrev pub top_turn : ℕ → Standing → List Terminal → Answer (Turn (List Top) Standing)
top_turn n s [] = read (last []) []
top_turn n s (t ∷ i) =
    on_some (after_word res.Semicolon (t ∷ i)) (λ m. read (more (λ ts. ts) (record { fix = s.fix; fresh = true })) m) (top_turn_by n s (t ∷ i))

-- all terminals of a source, at most n deep
abbrev pub read_source : ℕ → Fixity → List Terminal → Answer (List Top)
read_source n f i = whole (top_turn n) (record { fix = f; fresh = true }) i
