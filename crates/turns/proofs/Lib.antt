-- TogetherLaws: each van's turn tells the step, and the step each van's turn. PutLaws: one van's row and part put in. TurnLaws: what one van's turn
-- asks. EachLaws: the loop over the vans.
pub mod TogetherLaws
pub mod PutLaws
pub mod TurnLaws
pub mod EachLaws
