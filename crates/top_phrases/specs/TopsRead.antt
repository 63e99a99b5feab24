-- What was read of signatures, functors and tops, against the reading function's answer.
use Rattle.std.specs.Prelude.{ℕ, zero, suc, max, ◌≡◌, ◌≤◌, ◌<◌, Bool, List, [], ◌∷◌, ◌++◌, length, map, Option, Some, None}
use Rattle.mlc_names.specs.declared.token.Reserved.TheVariants as res
use Rattle.mlc_names.specs.declared.token.Token.{Token}
use Rattle.sml_tree.specs.Terminal.{Terminal}
use Rattle.sml_tree.specs.Fixity.{Fixity}
use Rattle.sml_tree.specs.BareTree as core
use Rattle.sml_tree.specs.ReadTree.{Placed}
use Rattle.sml_grammar.specs.Answer.{Read, Answer, read, then_read, whole}
use Rattle.sml_grammar.specs.Terminals.{first_as, on_taken, then_taken, word_then, place_at, no_state}
use Rattle.module_tree.specs.BareModules as bare
use Rattle.module_tree.specs.ReadModules as tree
use Rattle.module_tree.specs.ModuleBare.{bare_parameter, bare_fun_bind, bare_sig_bind, bare_top, bare_tops}
use Rattle.module_tree.specs.ModuleDepth.{depth_sig, depth_maybe_sig, depth_str, depth_parameter, depth_sig_binds, depth_fun_binds, depth_top}
use Rattle.module_tree.specs.Scope.{after_top, after_tops}
use Rattle.module_tree.specs.ModuleGrammar.{ends_in_semicolon}
use Rattle.module_grammar.specs.Signatures.{as_module_id, id_then, read_sig, specs_from}
use Rattle.module_grammar.specs.Sources.{sig_bind_turn, fun_bind_rest, fun_bind_turn}
use Rattle.module_code.specs.TreeOf.{parameter_of, sig_bind_of, fun_bind_of, top_of}
use Rattle.module_code.specs.declared.sources.SigBind as code_sig_bind
use Rattle.module_code.specs.declared.sources.FunBind as code_fun_bind
use Rattle.module_code.specs.declared.sources.Parameter as code_parameter
use Rattle.module_code.specs.declared.sources.Top as code_top
use Rattle.phrase_base.specs.declared.source.Source.{Source}
use Rattle.phrase_base.specs.Left.{left}
use Rattle.phrase_base.specs.TypesRead.{IsOne}

-- sigid = sigexp
abbrev pub read_sig_bind : ℕ → List Terminal → Answer tree.SigBind
read_sig_bind n i = id_then res.Equals (λ x k. then_read (read_sig n k) (λ g o. read (record { sigid = x; sigexp = g }) o)) i

abbrev pub depth_sig_bind : tree.SigBind → ℕ
depth_sig_bind b = depth_sig b.sigexp

abbrev pub IsSigBind : Source → ℕ → List Terminal → code_sig_bind.SigBind → ℕ → List Token → Read tree.SigBind → Type 0
IsSigBind s n i x d o got = IsOne sig_bind_of (bare_sig_bind s.file) depth_sig_bind s n i x d o got

abbrev pub read_sig_binds : ℕ → List Terminal → Answer (List tree.SigBind)
read_sig_binds n i = whole (sig_bind_turn n) no_state i

abbrev pub IsSigBinds : Source → ℕ → List Terminal → List code_sig_bind.SigBind → ℕ → List Token → Read (List tree.SigBind) → Type 0
IsSigBinds s n i xs d o got = IsOne (map sig_bind_of) (map (bare_sig_bind s.file)) depth_sig_binds s n i xs d o got

-- what a functor takes: it may be nothing
pub record IsParameter (s : Source) (n : ℕ) (i : List Terminal) (x : code_parameter.Parameter) (d : ℕ)
    (o : List Token) (got : Read tree.Parameter) : Type 0 where
  pub rest : left s o ≡ got.rest
  pub same : parameter_of x ≡ bare_parameter s.file got.tree
  pub depth : d ≡ depth_parameter got.tree
  pub fits : depth_parameter got.tree ≤ n
  pub shorter : length got.rest ≤ length i

-- strid : sigexp, or spec, after the bracket at p
abbrev pub parameter_by : ℕ → ℕ → List Terminal → Answer tree.Parameter
parameter_by n p i =
    on_taken (first_as as_module_id i) (λ x m. word_then res.Colon (λ k. then_read (read_sig n k) (λ g o. read (tree.structure_parameter x g) o)) m)
    (then_read (specs_from n (read_sig n) i) (λ ss o. read (tree.spec_parameter p ss) o))

-- funid (..) [: sigexp] = strexp
abbrev pub read_fun_bind : ℕ → Fixity → List Terminal → Answer tree.FunBind
read_fun_bind n f i =
    then_taken (first_as as_module_id i) (λ x m. word_then res.LeftParen (λ k. then_read (parameter_by n (place_at m) k) (λ a o.
    word_then res.RightParen (fun_bind_rest n f x a) o)) m)

abbrev pub depth_fun_bind : tree.FunBind → ℕ
depth_fun_bind b = max (depth_parameter b.parameter) (max (depth_maybe_sig b.result) (depth_str b.body))

abbrev pub IsFunBind : {D : Type 0} → (D → core.Dec) → Source → ℕ → List Terminal → code_fun_bind.FunBind D → ℕ → List Token → Read tree.FunBind → Type 0
IsFunBind of s n i x d o got = IsOne (fun_bind_of of) (bare_fun_bind s.file) depth_fun_bind s n i x d o got

abbrev pub read_fun_binds : ℕ → Fixity → List Terminal → Answer (List tree.FunBind)
read_fun_binds n f i = whole (fun_bind_turn n f) no_state i

abbrev pub IsFunBinds : {D : Type 0} → (D → core.Dec) → Source → ℕ → List Terminal → List (code_fun_bind.FunBind D) → ℕ → List Token
    → Read (List tree.FunBind) → Type 0
IsFunBinds of s n i xs d o got = IsOne (map (fun_bind_of of)) (map (bare_fun_bind s.file)) depth_fun_binds s n i xs d o got

-- a phrase of a source's top, where `it` is the name of that identifier, and whether it ends in a `;`; directives leave nothing; f' are the fixities after it
abbrev pub some_top_of : {D : Type 0} → (D → core.Dec) → Option (code_top.Top D) → List bare.Top
some_top_of of None = []
some_top_of of (Some t) = top_of of t ∷ []

pub record IsTop {D : Type 0} (of : D → core.Dec) (it : ℕ) (f f' : Fixity) (s : Source) (n : ℕ) (semicolon : Bool) (i : List Terminal) (x : Option (code_top.Top D))
    (o : List Token) (got : Read tree.Top) : Type 0 where
  pub rest : left s o ≡ got.rest
  pub same : some_top_of of x ≡ bare_top it s.file got.tree []
  pub shorter : length got.rest < length i
  pub force : f' ≡ after_top f got.tree
  pub ends : ends_in_semicolon got.tree ≡ semicolon

-- all that a source holds
pub record IsTops {D : Type 0} (of : D → core.Dec) (it : ℕ) (f f' : Fixity) (s : Source) (xs : List (code_top.Top D)) (got : Read (List tree.Top)) : Type 0 where
  pub rest : got.rest ≡ []
  pub same : map (top_of of) xs ≡ bare_tops it s.file got.tree
  pub force : f' ≡ after_tops f got.tree

-- declarations of structures as tops
abbrev pub strs_of : List bare.StrDec → List bare.Top
strs_of [] = []
strs_of (d ∷ ds) = bare.str_top d ∷ strs_of ds
