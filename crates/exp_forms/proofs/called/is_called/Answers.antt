use Rattle.std.proofs.Common.{◌∙◌}
use Rattle.core_elab.specs.Resolves.{called_constant, called_vid, called_built, called_fields, called_let, called_typed, called_handle, called_raise}
use Rattle.sml_tree.specs.TreeOf.{exp_of, part_of}
use Rattle.exp_forms.proofs.Nodes.{source-Constant, source-Vid, source-BuiltIn, source-Record, source-Tuple, source-List, source-Sequence, source-Let, source-Apply, source-Chain, source-Typed, source-Handle, source-Raise}
use Rattle.exp_forms.proofs.CallingShapes.{applied-called, called-at, chain-called, list-called, sequence-called, some-there}
use Rattle.exp_forms.proofs.called.is_called.Goals as goal

pub returns-in-Constant : goal.returns-in-Constant
returns-in-Constant c h = called-at c.args.exp.now _ _ c.in-Constant.is (source-Constant _ _) (called_constant _ _)

pub returns-in-Vid : goal.returns-in-Vid
returns-in-Vid c h = called-at c.args.exp.now _ _ c.in-Vid.is (source-Vid _ _) (called_vid _ _)

pub returns-in-BuiltIn : goal.returns-in-BuiltIn
returns-in-BuiltIn c h = called-at c.args.exp.now _ _ c.in-BuiltIn.is (source-BuiltIn _ _) (called_built _ _)

pub returns-in-Record : goal.returns-in-Record
returns-in-Record c h = called-at c.args.exp.now _ _ c.in-Record.is (source-Record _ _) (called_fields _ _)

pub returns-in-Tuple : goal.returns-in-Tuple
returns-in-Tuple c h = called-at c.args.exp.now _ _ c.in-Tuple.is (source-Tuple _ _) (called_fields _ _)

pub returns-in-List : goal.returns-in-List
returns-in-List c h = called-at c.args.exp.now _ _ c.in-List.is (source-List _ _) (list-called _ _)

pub returns-in-Let : goal.returns-in-Let
returns-in-Let c h = called-at c.args.exp.now _ _ c.in-Let.is (source-Let _ _ _) (called_let _ _ _)

pub returns-in-Typed : goal.returns-in-Typed
returns-in-Typed c h = called-at c.args.exp.now _ _ c.in-Typed.is (source-Typed _ _ _) (called_typed _ _ _)

pub returns-in-Handle : goal.returns-in-Handle
returns-in-Handle c h = called-at c.args.exp.now _ _ c.in-Handle.is (source-Handle _ _ _) (called_handle _ _ _)

pub returns-in-Raise : goal.returns-in-Raise
returns-in-Raise c h = called-at c.args.exp.now _ _ c.in-Raise.is (source-Raise _ _) (called_raise _ _)

pub returns-in-Sequence : goal.returns-in-Sequence
returns-in-Sequence c h =
    called-at c.args.exp.now _ _ c.in-Sequence.is (source-Sequence _ _ _) (sequence-called _ _ _ (some-there exp_of c.in-Sequence.rest.items c.len.result (c.len.ensures ∙ c.in-Sequence.rest.ok.0) h))

pub returns-in-Apply : goal.returns-in-Apply
returns-in-Apply c h =
    called-at c.args.exp.now _ _ c.in-Apply.is (source-Apply _ _ _) (applied-called _ _ _ (some-there exp_of c.in-Apply.arguments.items c.len-in-Apply.result (c.len-in-Apply.ensures ∙ c.in-Apply.arguments.ok.0) h))

pub returns-in-Chain : goal.returns-in-Chain
returns-in-Chain c h =
    called-at c.args.exp.now _ _ c.in-Chain.is (source-Chain _ _ _ _) (chain-called _ _ _ _ (some-there part_of c.in-Chain.parts.items c.len-in-Chain.result (c.len-in-Chain.ensures ∙ c.in-Chain.parts.ok.0) h))
