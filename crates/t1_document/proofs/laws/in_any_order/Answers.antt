use Rattle.t1_document.proofs.AnyOrder.{in_any_order_of_documents}
use Rattle.t1_document.proofs.laws.in_any_order.Goals as goal

pub returns : goal.returns
returns c = in_any_order_of_documents
