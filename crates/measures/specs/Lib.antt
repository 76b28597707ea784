pub mod MinutesMeaning
pub mod ChainMeaning
pub mod WeakestMeaning
pub mod Texts
pub mod ChainLaws
