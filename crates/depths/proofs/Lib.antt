pub mod DepthStack
